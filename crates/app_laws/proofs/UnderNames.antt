-- Lists of pending tasks under names, as their first task acts and as they are numbered anew.
use Rattle.std.proofs.Common.{◌≡◌, ◌⊎◌, ℕ, Bool, true, List, [], ◌∷◌, ◌++◌, ◌&&◌, map, refl, sym, ap, ◌∙◌, subst, ⊎_elim}
use Rattle.std.proofs.lemmas.Bool.{and_from, and_parts}
use Rattle.std.proofs.lemmas.List.{map-id}
use Rattle.std.proofs.lemmas.Simd.{map-map}
use Rattle.task_order.specs.declared.start.Start.{Start}
use Rattle.task_order.specs.declared.task.Task.{Task}
use Rattle.task_order.specs.TaskList.{put_all}
use Rattle.app_laws.specs.Execution.{children_from}
use Rattle.app_laws.specs.Laws.{NoneEarlier}
use Rattle.app_laws.specs.Lower.{LowerLaws}
use Rattle.app_laws.specs.Names.{IsNaming, renamed}
use Rattle.app_laws.specs.Renaming.{HaveNames}
use Rattle.app_laws.specs.Renumbering.{AreRenumbered}
use Rattle.app_laws.proofs.Ordered.{spread_at_start, spread_next}
use Rattle.app_laws.proofs.Renamed.{children_put, children_put_named}
use Rattle.app_laws.specs.ApartLaws.{IsSpread}

-- the pending tasks are those of the exact list, with names in place of their paths that may be
pub record AreUnderNames (May : (List ℕ → List ℕ) → Type 0) (exact pending : List Task) : Type 0 where
  pub name : List ℕ → List ℕ
  pub has_name : List ℕ → Bool
  pub naming : IsNaming name has_name
  pub have_names : HaveNames has_name exact
  pub are : pending ≡ map (renamed name) exact
  pub spread : IsSpread pending
  pub may : May name

-- ---- at the start each path is its own name

all_named : (tasks : List Task) → HaveNames (λ path. true) tasks
all_named [] = tt
all_named (task ∷ tasks) = (refl, all_named tasks)

pub under_own_names : {May : (List ℕ → List ℕ) → Type 0} → May (λ path. path) → (tasks : List Task) → IsSpread tasks → AreUnderNames May tasks tasks
under_own_names may tasks spread = record {
  may = may;
  name = λ path. path;
  has_name = λ path. true;
  naming = record { have_too = λ path number has. refl; go_on = λ path number has. refl; in_order = λ path other has other_has. refl };
  have_names = all_named tasks;
  are = sym (map-id tasks);
  spread = spread;
}

-- ---- a step

-- the first task and the others are the renamed ones of the exact list
pub record IsNamedFirst (name : List ℕ → List ℕ) (exact : List Task) (task : Task) (others : List Task) : Type 0 where
  pub first : Task
  pub rest : List Task
  pub parts : exact ≡ first ∷ rest
  pub task_is : task ≡ renamed name first
  pub others_are : others ≡ map (renamed name) rest

named_first : (name : List ℕ → List ℕ) (exact : List Task) (task : Task) (others : List Task) → task ∷ others ≡ map (renamed name) exact → IsNamedFirst name exact task others
named_first name [] task others are = absurd (cc)
named_first name (first ∷ rest) task others are = record {
  first = first;
  rest = rest;
  parts = refl;
  task_is = cc;
  others_are = cc;
}

module _ {May : (List ℕ → List ℕ) → Type 0} {exact pending : List Task} (under : AreUnderNames May exact pending) {task : Task} {others : List Task} (is : pending ≡ task ∷ others) where
  pub exact_first : IsNamedFirst under.name exact task others
  exact_first = named_first under.name exact task others (sym is ∙ under.are)

  first_spread : IsSpread (task ∷ others)
  first_spread = subst IsSpread is under.spread

  -- the first task gives way to its children
  pub under_next : LowerLaws → (children : List Start) → NoneEarlier task.key.prio children
      → AreUnderNames May (put_all (children_from exact_first.first.key 0 children) exact_first.rest) (put_all (children_from task.key 0 children) others)
  under_next lower children not_earlier =
      let first = exact_first.first in
      let rest = exact_first.rest in
      let named = subst (HaveNames under.has_name) exact_first.parts under.have_names in
      record {
        may = under.may;
        name = under.name;
        has_name = under.has_name;
        naming = under.naming;
        have_names = children_put_named under.naming first rest children named;
        are =
            (λ i. put_all (children_from (exact_first.task_is i).key 0 children) (exact_first.others_are i))
            ∙ children_put under.naming first rest children named;
        spread = spread_next lower task others children not_earlier first_spread;
      }

-- where none is pending, none is in the exact list
pub none_under : (name : List ℕ → List ℕ) (exact : List Task) → map (renamed name) exact ≡ [] → exact ≡ []
none_under name [] none = refl
none_under name (task ∷ exact) none = absurd (cc)

-- ---- new names of names

module _ {name : List ℕ → List ℕ} {has_name : List ℕ → Bool} (naming : IsNaming name has_name) {name' : List ℕ → List ℕ} {has_name' : List ℕ → Bool} (naming' : IsNaming name' has_name') where
  -- the name of the name, where both are there
  abbrev has_both : List ℕ → Bool
  has_both path = has_name path && has_name' (name path)

  both : (path : List ℕ) → has_both path ≡ true → (has_name path ≡ true) × (has_name' (name path) ≡ true)
  both path has = and_parts (has_name path) (has_name' (name path)) has

  names_of_names : IsNaming (λ path. name' (name path)) has_both
  names_of_names = record {
    have_too = λ path number has.
        let parts = both path has in
        and_from (has_name (path ++ number ∷ [])) (has_name' (name (path ++ number ∷ []))) (naming.have_too path number parts.0)
        (ap has_name' (naming.go_on path number parts.0) ∙ naming'.have_too (name path) number parts.1);
    go_on = λ path number has.
        let parts = both path has in
        ap name' (naming.go_on path number parts.0) ∙ naming'.go_on (name path) number parts.1;
    in_order = λ path other has other_has.
        let parts = both path has in
        let other_parts = both other other_has in
        naming'.in_order (name path) (name other) parts.1 other_parts.1 ∙ naming.in_order path other parts.0 other_parts.0;
  }

  have_both : (tasks : List Task) → HaveNames has_name tasks → HaveNames has_name' (map (renamed name) tasks) → HaveNames has_both tasks
  have_both [] named named' = tt
  have_both (task ∷ tasks) named named' =
      (and_from (has_name task.key.path) (has_name' (name task.key.path)) named.0 named'.0, have_both tasks named.1 named'.1)

under_new_names : {May : (List ℕ → List ℕ) → Type 0} → ((name : List ℕ → List ℕ) → May name) → LowerLaws → (exact pending renumbered : List Task) → AreUnderNames May exact pending → AreRenumbered pending renumbered → AreUnderNames May exact renumbered
under_new_names all lower exact pending renumbered under anew =
    let named = anew.named in
    record {
      may = all (λ path. named.name (under.name path));
      name = λ path. named.name (under.name path);
      has_name = has_both under.naming named.naming;
      naming = names_of_names under.naming named.naming;
      have_names = have_both under.naming named.naming exact under.have_names (subst (HaveNames named.has_name) under.are named.have_names);
      are = anew.are ∙ sym named.are_first ∙ ap (map (renamed named.name)) under.are ∙ map-map (renamed named.name) (renamed under.name) exact;
      spread = subst IsSpread (sym anew.are) (spread_at_start lower anew.first);
    }

pub still_under_names : {May : (List ℕ → List ℕ) → Type 0} {P : Type 0} → (P → (name : List ℕ → List ℕ) → May name) → LowerLaws → (exact pending left : List Task) → AreUnderNames May exact pending
    → (left ≡ pending) ⊎ (P × AreRenumbered pending left) → AreUnderNames May exact left
still_under_names {May} {P} all lower exact pending left under maybe =
    ⊎_elim
    (λ same. subst (AreUnderNames May exact) (sym same) under)
    (λ anew. under_new_names (all anew.0) lower exact pending left under anew.1)
    maybe
