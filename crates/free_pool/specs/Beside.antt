-- What a call of a function at one `&mut`, or at two, may take and leave.
use Rattle.std.specs.Prelude.{◌≡◌}
use denote.Ref.{MutBor}
use denote.Param.Members.{Shared}

module _ {F T : Type 0} (g : Shared F (MutBor T × Unit {0}) (Unit {0} × (MutBor T × Unit {0}))) (f : F) where
  -- it may be called at a `&mut` to x
  abbrev pub TakesOne : T → Type 0
  TakesOne x = (p : MutBor T) → p.now ≡ x → g.pre f (p, tt)

  -- such a call may leave y there
  pub record GivesOne (x y : T) : Type 0 where
    pub argument : MutBor T
    pub argument_is : argument.now ≡ x
    pub after : MutBor T
    pub call : g.post f (argument, tt) (tt, (after, tt))
    pub left : after.now ≡ y

module _ {F S T : Type 0} (g : Shared F (MutBor S × (MutBor T × Unit {0})) (Unit {0} × (MutBor S × (MutBor T × Unit {0})))) (f : F) where
  -- it may be called at a `&mut` to x and one to y
  abbrev pub TakesTwo : S → T → Type 0
  TakesTwo x y = (p : MutBor S) (q : MutBor T) → p.now ≡ x → q.now ≡ y → g.pre f (p, (q, tt))

  -- such a call may leave these there
  pub record GivesTwo (x : S) (y : T) (x' : S) (y' : T) : Type 0 where
    pub first : MutBor S
    pub first_is : first.now ≡ x
    pub second : MutBor T
    pub second_is : second.now ≡ y
    pub first_after : MutBor S
    pub second_after : MutBor T
    pub call : g.post f (first, (second, tt)) (tt, (first_after, (second_after, tt)))
    pub first_left : first_after.now ≡ x'
    pub second_left : second_after.now ≡ y'
