-- What callers see of a marker, where its view changes.
use Rattle.std.proofs.Common.{◌≡◌, ℕ, ◌+◌, ◌-◌, ◌<◌, ◌≤◌, List, [], ◌∷◌, ◌++◌, sym, ap, subst, ◌∙◌, false}
use Rattle.std.specs.Prelude.{Contains}
use Rattle.atomic_table.specs.Seated.{TableId}
use Rattle.atomic_table.specs.Table.{Me}
use Rattle.rw_sets.specs.declared.access.Access.{Access}
use Rattle.mark_board.specs.declared.view.Mark.{Mark}
use Rattle.mark_board.specs.declared.view.View.{View}
use Rattle.mark_board.specs.Board.{both_views, with_mark}
use Rattle.mark_board.specs.Markers.{BoardState, MarkerState, joined}
use Rattle.mark_board.specs.Words.{AreOfLastRounds, base_of, mark_at, of_round, ranks, word_of}
use Rattle.mark_board.proofs.Rounds.{last_append, last_one, mark_of_word, next_is_empty, round_append, round_one}

abbrev pub shown : TableId → ℕ → View → MarkerState
shown table renewals v = record { board = record { table = table; renewals = renewals }; number = v.number; splits = v.splits; unjoined = v.unjoined; marks = of_round renewals v.marks }

-- ---- what is the same of markers and boards that are the same

pub same_board : {m other : MarkerState} → m ≡ other → m.board ≡ other.board
same_board same = ap (λ (one : MarkerState). one.board) same

pub same_number : {m other : MarkerState} → m ≡ other → m.number ≡ other.number
same_number same = ap (λ (one : MarkerState). one.number) same

pub same_unjoined : {m other : MarkerState} → m ≡ other → m.unjoined ≡ other.unjoined
same_unjoined same = ap (λ (one : MarkerState). one.unjoined) same

pub same_marks : {m other : MarkerState} → m ≡ other → m.marks ≡ other.marks
same_marks same = ap (λ (one : MarkerState). one.marks) same

pub has_number : {m other n another : MarkerState} → m ≡ other → n ≡ another → Contains other.unjoined another.number → Contains m.unjoined n.number
has_number {m} {other} {n} {another} same also has =
    subst (λ (one : MarkerState). Contains one.unjoined n.number) (sym same) (subst (λ (one : MarkerState). Contains other.unjoined one.number) (sym also) has)

pub same_id : {b other : BoardState} → b ≡ other → b.id ≡ other.id
same_id same = ap (λ (one : BoardState). one.id) same

pub same_cells : {b other : BoardState} → b ≡ other → b.cells ≡ other.cells
same_cells same = ap (λ (one : BoardState). one.cells) same

-- ---- changes

-- one mark more
pub mark_shown : (table : TableId) (renewals loc : ℕ) (access : Access) (rank : ℕ) (v : View) → rank < ranks
    → shown table renewals (with_mark v (mark_at (word_of loc access) (base_of renewals + rank)))
    ≡ record (shown table renewals v) { marks = of_round renewals v.marks ++ record { loc = loc; access = access; rank = rank } ∷ [] }
mark_shown table renewals loc access rank v below =
    ap (λ (marks : List Mark). record (shown table renewals v) { marks = marks })
    (round_append renewals v.marks (mark_at (word_of loc access) (base_of renewals + rank) ∷ [])
    ∙ ap (λ (more : List Mark). of_round renewals v.marks ++ more)
    (ap (λ (mark : Mark). of_round renewals (mark ∷ [])) (mark_of_word loc access (base_of renewals + rank)) ∙ round_one renewals loc access rank below))

-- what another had is taken over
pub join_shown : (table : TableId) (renewals : ℕ) (v w : View) → shown table renewals (both_views v w) ≡ joined (shown table renewals v) (shown table renewals w)
join_shown table renewals v w = ap (λ (marks : List Mark). record (joined (shown table renewals v) (shown table renewals w)) { marks = marks }) (round_append renewals v.marks w.marks)

-- the next round begins without a mark
pub next_shown : (table : TableId) (renewals : ℕ) (v : View) → 0 < renewals → AreOfLastRounds renewals v.marks
    → shown table (renewals - 1) v ≡ record (shown table renewals v) { board = record { table = table; renewals = renewals - 1 }; marks = [] }
next_shown table renewals v some last = ap (λ (marks : List Mark). record (shown table (renewals - 1) v) { marks = marks }) (next_is_empty renewals v.marks some last)

pub still_last : (renewals : ℕ) {marks others : List Mark} → others ≡ marks → AreOfLastRounds renewals marks → AreOfLastRounds renewals others
still_last renewals same last = subst (λ (ms : List Mark). AreOfLastRounds renewals ms) (sym same) last

-- a marker after a mark, and what it keeps
pub record IsMarked {S : Type 0} (renewals word number : ℕ) (before after : Me S View) : Type 0 where
  pub last : AreOfLastRounds renewals after.0.marks
  pub unspent : after.0.spent ≡ false
  pub empty : after.1 ≡ []

pub is_marked : {S : Type 0} (renewals word number : ℕ) (before after : Me S View) → after ≡ (with_mark before.0 (mark_at word number), before.1) → base_of renewals ≤ number
    → before.1 ≡ [] → before.0.spent ≡ false → AreOfLastRounds renewals before.0.marks → IsMarked renewals word number before after
is_marked {S} renewals word number before after is from empty unspent last = record {
  last = subst (λ (me : Me S View). AreOfLastRounds renewals me.0.marks) (sym is) (last_append renewals before.0.marks (mark_at word number ∷ []) last (last_one renewals (mark_at word number) from));
  unspent = ap (λ (me : Me S View). me.0.spent) is ∙ unspent;
  empty = ap (λ (me : Me S View). me.1) is ∙ empty;
}
