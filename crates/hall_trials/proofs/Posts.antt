-- The posts of a team's workers, from the first split to the last join.
use Rattle.std.proofs.Common.{get_or, ◌≡◌, ℕ, zero, suc, ◌+◌, ◌<◌, List, [], ◌∷◌, ◌++◌, length, length-append, refl, sym, ap, subst, ◌∙◌, arith}
use Rattle.std.specs.Prelude.{Contains}
use Rattle.plain_laws.specs.Ranges.{down_from}
use Rattle.graph_update.specs.Engine.{EngineState}
use Rattle.worker_gate.specs.Steps.{both_views, first_half, second_half}
use Rattle.worker_gate.specs.Turns.{HallState, SeatState}
use Rattle.hall_trials.specs.Seated.{HasWorked, IsSeated, MayWork}
use Rattle.hall_trials.specs.Team.{ArePosts, EachAt, EachPair, IsFirst, IsPosted, IsSplit}
use Rattle.hall_trials.proofs.Joining.{first_split, joined, may_join, other_split, still_split}

-- ---- lists

each_push : {X : Type 0} (P : ℕ → X → Type 0) (xs : List X) (new : X) → EachAt P xs → P (length xs) new → (k : ℕ) (x : X) → k < length (xs ++ new ∷ []) → P k (get_or (xs ++ new ∷ []) k x)
each_push P [] new each one zero x inside = one
each_push P [] new each one (suc k) x inside = absurd (omega (arith, inside))
each_push P (y ∷ xs) new each one zero x inside = each 0 x (omega arith)
each_push P (y ∷ xs) new each one (suc k) x inside =
    each_push (λ n. P (suc n)) xs new (λ n z more. each (suc n) z (omega (arith, more))) one k x (omega (arith, inside))

each_before : {X : Type 0} (P : ℕ → X → Type 0) (xs : List X) (last : X) → EachAt P (xs ++ last ∷ []) → (k : ℕ) (x : X) → k < length xs → P k (get_or xs k x)
each_before P [] last each k x inside = absurd (omega (arith, inside))
each_before P (y ∷ xs) last each zero x inside = each 0 x (omega arith)
each_before P (y ∷ xs) last each (suc k) x inside =
    each_before (λ n. P (suc n)) xs last (λ n z more. each (suc n) z (omega (arith, more))) k x (omega (arith, inside))

each_last : {X : Type 0} (P : ℕ → X → Type 0) (xs : List X) (last : X) → EachAt P (xs ++ last ∷ []) → P (length xs) last
each_last P [] last each = each 0 last (omega arith)
each_last P (y ∷ xs) last each = each_last (λ n. P (suc n)) xs last (λ n z more. each (suc n) z (omega (arith, more)))

-- ---- posts

module _ {A V P : Type 0} (hall : HallState (EngineState A V)) (at : P → HallState (EngineState A V)) (app : P → A) (seat : P → SeatState (EngineState A V) V) where
  abbrev Posted : ℕ → P → Type 0
  Posted k post = IsPosted hall (suc k) (at post) (app post) (seat post)

  abbrev Posts : ℕ → SeatState (EngineState A V) V → List P → Type 0
  Posts n own posts = ArePosts hall at app seat n own posts

  pub no_posts : {own : SeatState (EngineState A V) V} {posts : List P} → IsFirst hall [] own → own.view.splits ≡ 0 → posts ≡ [] → Posts 0 own posts
  no_posts {own} first whole none =
      subst (λ (posts : List P). Posts 0 own posts) (sym none)
      (record { first_is = first; splits = whole; long = refl; posts_are = λ k post inside. absurd (omega (arith, inside)) })

  pub one_more : {n : ℕ} {own next : SeatState (EngineState A V) V} {posts now : List P} → Posts n own posts → next ≡ record own { view = first_half own.view } → (post : P) → at post ≡ hall
      → app post ≡ hall.origin.app → seat post ≡ record { hall = hall.id; view = second_half own.view } → now ≡ posts ++ post ∷ [] → Posts (n + 1) next now
  one_more {n} {own} {next} {posts} {now} were is post same app_is other more =
      let posted : IsPosted hall (suc n) (at post) (app post) (seat post) = record {
        at_is = same;
        app_is = app_is;
        split = other_split hall n were.first_is.split were.splits other;
        idle = ap (λ (s : SeatState (EngineState A V) V). s.view.jobs) other;
      } in
      let last : Posted (length posts) post = subst (λ (k : ℕ). Posted k post) (sym were.long) posted in
      let one : suc n ≡ n + 1 = omega arith in
      subst (λ (k : ℕ). Posts k next now) one (record {
        first_is = record {
          split = first_split hall n were.first_is.split were.splits is;
          drained = ap (λ (s : SeatState (EngineState A V) V). s.view.drained) is ∙ were.first_is.drained;
        };
        splits = ap (λ (s : SeatState (EngineState A V) V). s.view.splits) is ∙ ap (λ (k : ℕ). suc k) were.splits;
        long = let longer = length-append posts (post ∷ []) in let all = ap length more in let was = were.long in omega (arith, longer, all, was);
        posts_are = subst (EachAt Posted) (sym more) (each_push Posted posts post were.posts_are last);
      })

  -- each may work at its post
  pub may_work : (posts : List P) → EachAt Posted posts → (k : ℕ) (post : P) → k < length posts → MayWork (at (get_or posts k post)) (app (get_or posts k post)) (seat (get_or posts k post))
  may_work posts posted k post inside =
      let one = posted k post inside in
      record {
        seated = subst (λ (h : HallState (EngineState A V)). IsSeated h (seat (get_or posts k post))) (sym one.at_is) one.split.seated;
        app_is = one.app_is ∙ ap (λ (h : HallState (EngineState A V)). h.origin.app) (sym one.at_is);
        idle = one.idle;
      }

  -- and then has its seat still
  pub seats_after : {Q : Type 0} (back : Q → SeatState (EngineState A V) V) (posts : List P) (backs : List Q) → length backs ≡ length posts → EachAt Posted posts
      → EachPair (λ (post : P) (now : Q). HasWorked (at post) (seat post) (back now)) posts backs → (k : ℕ) (now : Q) → k < length backs → IsSplit hall (suc k) [] (back (get_or backs k now))
  seats_after back [] backs long posted worked k now inside = absurd (omega (arith, long, inside))
  seats_after back (post ∷ posts) backs long posted worked k now inside =
      let within : k < length (post ∷ posts) = omega (arith, long, inside) in
      let one = posted k post within in
      still_split hall one.split (subst (λ (h : HallState (EngineState A V)). HasWorked h (seat (get_or (post ∷ posts) k post)) (back (get_or backs k now))) one.at_is (worked k post now within))

-- ---- joining

module _ {A V Q : Type 0} (hall : HallState (EngineState A V)) (back : Q → SeatState (EngineState A V) V) where
  abbrev Left : ℕ → Q → Type 0
  Left k post = IsSplit hall (suc k) [] (back post)

  -- while seats are joined to the first one: these are left
  pub record IsJoining (own : SeatState (EngineState A V) V) (posts : List Q) : Type 0 where
    pub first : IsFirst hall (down_from (length posts)) own
    pub posts_are : EachAt Left posts

  module _ {own : SeatState (EngineState A V) V} {posts : List Q} (rest : List Q) (last : Q) (is : posts ≡ rest ++ last ∷ []) (joining : IsJoining own posts) where
    own_split : IsSplit hall 0 (down_from (suc (length rest))) own
    own_split =
        let longer = length-append rest (last ∷ []) in let all = ap length is in
        let long : length posts ≡ suc (length rest) = omega (arith, longer, all) in
        subst (λ (n : ℕ). IsSplit hall 0 (down_from n) own) long joining.first.split

    last_split : IsSplit hall (suc (length rest)) [] (back last)
    last_split = each_last Left rest last (subst (EachAt Left) is joining.posts_are)

    pub last_here : (back last).hall ≡ hall.id
    last_here = last_split.seated.here

    pub last_unjoined : Contains own.view.unjoined (back last).view.number
    last_unjoined = may_join hall (length rest) own_split last_split

    pub one_joined : {next : SeatState (EngineState A V) V} → next ≡ record own { view = both_views own.view (back last).view } → IsJoining next rest
    one_joined same = record {
      first = record {
        split = joined hall (length rest) own_split last_split same;
        drained = ap (λ (s : SeatState (EngineState A V) V). s.view.drained) same ∙ joining.first.drained;
      };
      posts_are = each_before Left rest last (subst (EachAt Left) is joining.posts_are);
    }

  pub all_joined : {own : SeatState (EngineState A V) V} {posts : List Q} → posts ≡ [] → IsJoining own posts → IsFirst hall [] own
  all_joined {own} {posts} none joining = subst (λ (xs : List Q). IsFirst hall (down_from (length xs)) own) none joining.first
