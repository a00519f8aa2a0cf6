use Rattle.std.specs.Prelude.{◌≡◌, ◌+◌, ◌-◌, ◌≤◌, ◌++◌, [], ◌∷◌, ℕ, filter}
use Rattle.std.specs.List.{AllByRecursion}
use Rattle.std.proofs.Common.{arith, sym, ap, ◌∙◌, subst, append-nil, get_or}
use Rattle.std.proofs.lemmas.List.{take_all}
use Rattle.plain_laws.specs.Lists.{All-get_or}
use Rattle.rw_sets.specs.Accesses.{Accesses}
use Rattle.rw_sets.specs.declared.access.Access.TheVariants.{Write}
use Rattle.mtx_reader.specs.Ascending.{numbers_from}
use Rattle.gf2_eliminate.specs.Elimination.{writing}
use Rattle.gf2_eliminate.specs.Lines.{listed}
use Rattle.gf2_eliminate.specs.Membership.{listed_list}
use Rattle.gf2_eliminate.specs.Plans.{locations, locations_behind}
use Rattle.gf2_eliminate.specs.Touched.{is_marked}
use Rattle.gf2_eliminate.proofs.Finding.{pairs_more, behind_listed}
use Rattle.gf2_eliminate.proofs.touched.touched.Goals as goal

pub loop-other-init : goal.loop-other-init
loop-other-init c =
    c.loop-row.invariant ∙ ap (λ rows. writing (locations rows)) (take_all c.loop-row.row-index c.args.rows.now (omega arith)) ∙ ap writing (sym (append-nil (locations c.args.rows.now)))

pub loop-other-preserved : goal.loop-other-preserved
loop-other-preserved c =
    let i = c.loop-other.other-index in
    let others = c.deref-other-items.result.now in
    c.in_ok-push-2.ensures.items ∙ ap (λ (pairs : Accesses). pairs ++ (c.args.size.0 + (get_or others i 0 - 1), Write) ∷ []) c.loop-other.invariant
    ∙ sym (pairs_more (locations c.args.rows.now) (λ other. c.args.size.0 + (other - 1)) others i c.loop-other-test.true)

pub overflow_sub-other : goal.overflow_sub-other
overflow_sub-other c =
    let test = is_marked c.args.store.now c.args.column c.args.rows.now in
    let others = c.deref-other-items.result.now in
    let found : others ≡ listed c.args.size.1 test = c.deref-other-items.ensures.value ∙ c.in_ok-others.ensures ∙ c.in_ok-found.ensures c.args.size.1 c.requires.column c.requires.columns in
    (All-get_or (λ (n : ℕ). (1 ≤ n) × (n ≤ c.args.size.1)) others c.loop-other.other-index 0 c.loop-other-test.true
    (subst (AllByRecursion (λ (n : ℕ). (1 ≤ n) × (n ≤ c.args.size.1))) (sym found) (listed_list c.args.size.1 test).within)).0

pub overflow_add-size : goal.overflow_add-size
overflow_add-size c =
    let test = is_marked c.args.store.now c.args.column c.args.rows.now in
    let others = c.deref-other-items.result.now in
    let found : others ≡ listed c.args.size.1 test = c.deref-other-items.ensures.value ∙ c.in_ok-others.ensures ∙ c.in_ok-found.ensures c.args.size.1 c.requires.column c.requires.columns in
    let within = All-get_or (λ (n : ℕ). (1 ≤ n) × (n ≤ c.args.size.1)) others c.loop-other.other-index 0 c.loop-other-test.true
    (subst (AllByRecursion (λ (n : ℕ). (1 ≤ n) × (n ≤ c.args.size.1))) (sym found) (listed_list c.args.size.1 test).within) in
    omega (arith, within.0, within.1, c.requires.few)

pub returns : goal.returns
returns c =
    let test = is_marked c.args.store.now c.args.column c.args.rows.now in
    let others = c.deref-other-items.result.now in
    let found : others ≡ listed c.args.size.1 test = c.deref-other-items.ensures.value ∙ c.in_ok-others.ensures ∙ c.in_ok-found.ensures c.args.size.1 c.requires.column c.requires.columns in
    c.loop-other.invariant ∙ ap (λ ns. writing (locations c.args.rows.now ++ locations_behind c.args.size.0 ns)) (take_all c.loop-other.other-index others (omega arith) ∙ found)
    ∙ ap (λ locs. writing (locations c.args.rows.now ++ locs)) (behind_listed c.args.size.0 (filter test (numbers_from 0 c.args.size.1)))
