-- What a round shows of the marks of all rounds.
use Rattle.std.proofs.Common.{◌≡◌, ⊎_elim, ℕ, ◌+◌, ◌-◌, ◌*◌, ◌/◌, ◌%◌, ◌<◌, ◌≤◌, ◌==◌, nat_lt, List, [], ◌∷◌, ◌++◌, refl, ap, ◌∙◌, subst, Bool, true, false, cond, arith}
use Rattle.std.proofs.lemmas.Bool.Decides.{nat_tests}
use Rattle.std.proofs.lemmas.List.Elements.{Contains-append_cases}
use Rattle.plain_laws.specs.Members.{here, there}
use Rattle.rw_sets.specs.declared.access.Access.{Access}
use Rattle.rw_sets.specs.declared.access.Access.TheVariants.{Read, Write}
use Rattle.mark_board.specs.declared.view.Mark.{Mark}
use Rattle.mark_board.specs.Words.{AreOfLastRounds, base_of, mark_at, of_round, ranks, word_of}
use Rattle.mark_board.proofs.Places.{in_one}

-- the word of a location and an access tells both
pub mark_of_word : (loc : ℕ) (access : Access) (number : ℕ) → mark_at (word_of loc access) number ≡ record { loc = loc; access = access; rank = number }
mark_of_word loc Read number = let half : (2 * loc + 1 - 1) / 2 ≡ loc = omega arith in let odd : ((2 * loc + 1) % 2 == 1) ≡ true = grind (arith, nat_tests) in rw (half, odd) refl
mark_of_word loc Write number = let half : (2 * loc + 1 + 1 - 1) / 2 ≡ loc = omega arith in let even : ((2 * loc + 1 + 1) % 2 == 1) ≡ false = grind (arith, nat_tests) in rw (half, even) refl

-- the words of the locations below a bound lie after word 0 and within the board
pub word_above : (loc : ℕ) (access : Access) → 0 < word_of loc access
word_above loc Read = omega arith
word_above loc Write = omega arith

pub word_inside : (loc cells : ℕ) (access : Access) → loc < cells → word_of loc access < 2 * cells + 1
word_inside loc cells Read below = omega (arith, below)
word_inside loc cells Write below = omega (arith, below)

pub round_append : (renewals : ℕ) (marks more : List Mark) → of_round renewals (marks ++ more) ≡ of_round renewals marks ++ of_round renewals more
round_append renewals [] more = refl
round_append renewals (mark ∷ marks) more =
    let shown : Mark = record mark { rank = mark.rank - base_of renewals } in
    elim (nat_lt mark.rank (base_of renewals + ranks))
    as (λ b. cond b (shown ∷ of_round renewals (marks ++ more)) (of_round renewals (marks ++ more)) ≡ cond b (shown ∷ of_round renewals marks) (of_round renewals marks) ++ of_round renewals more) [
      | true ↦ ap (λ (rest : List Mark). shown ∷ rest) (round_append renewals marks more)
      | false ↦ round_append renewals marks more
    ]

-- a mark of this round
pub round_one : (renewals loc : ℕ) (access : Access) (rank : ℕ) → rank < ranks
    → of_round renewals (record { loc = loc; access = access; rank = base_of renewals + rank } ∷ []) ≡ record { loc = loc; access = access; rank = rank } ∷ []
round_one renewals loc access rank below =
    let test : nat_lt (base_of renewals + rank) (base_of renewals + ranks) ≡ true = grind (arith, nat_tests, below) in
    let back : base_of renewals + rank - base_of renewals ≡ rank = omega arith in
    rw (test, back) refl

pub last_append : (renewals : ℕ) (marks more : List Mark) → AreOfLastRounds renewals marks → AreOfLastRounds renewals more → AreOfLastRounds renewals (marks ++ more)
last_append renewals marks more last also mark has = ⊎_elim (last mark) (also mark) (Contains-append_cases marks more mark has)

pub last_one : (renewals : ℕ) (mark : Mark) → base_of renewals ≤ mark.rank → AreOfLastRounds renewals (mark ∷ [])
last_one renewals mark from other has = subst (λ (m : Mark). base_of renewals ≤ m.rank) (in_one mark other has) from

-- ---- the next round

pub last_next : (renewals : ℕ) (marks : List Mark) → 0 < renewals → AreOfLastRounds renewals marks → AreOfLastRounds (renewals - 1) marks
last_next renewals marks some last mark has = let from = last mark has in omega (arith, from, some)

-- it shows nothing of the rounds before
pub next_is_empty : (renewals : ℕ) (marks : List Mark) → 0 < renewals → AreOfLastRounds renewals marks → of_round (renewals - 1) marks ≡ []
next_is_empty renewals [] some last = refl
next_is_empty renewals (mark ∷ marks) some last =
    let from = last mark (here mark marks) in
    let low : base_of (renewals - 1) + ranks ≤ mark.rank = omega (arith, from, some) in
    let test : nat_lt mark.rank (base_of (renewals - 1) + ranks) ≡ false = grind (arith, nat_tests, low) in
    let shown : Mark = record mark { rank = mark.rank - base_of (renewals - 1) } in
    ap (λ (b : Bool). cond b (shown ∷ of_round (renewals - 1) marks) (of_round (renewals - 1) marks)) test
    ∙ next_is_empty renewals marks some (λ other has. last other (there mark other marks has))
