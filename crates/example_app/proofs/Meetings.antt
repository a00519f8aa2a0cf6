-- What a meeting finds in its bundle, and what it leaves there.
use Rattle.std.proofs.Common.{◌≡◌, ◌<◌, ◌-◌, ◌+◌, ◌⊎◌, ℕ, Bool, true, false, List, [], ◌∷◌, map, IsSome, IsTrue, arith, inl, inr, refl, sym, ap, ◌∙◌, subst, length-set}
use Rattle.std.specs.Prelude.{◌==◌, if◌then◌else◌, slice_index, slice_set}
use Rattle.task_order.specs.declared.task.Task.{Task}
use Rattle.rw_sets.specs.Accesses.{access_at, writes}
use Rattle.cell_store.specs.declared.cell.Cell.{Cell}
use Rattle.cell_store.specs.declared.cell.Cell.TheVariants.{Home}
use Rattle.cell_store.specs.Part.{Part}
use Rattle.cell_store.specs.Cells.{cell_at, cell_in, part_of, with_value}
use Rattle.cell_store.specs.Values.{homes, AgreesWith}
use Rattle.cell_store.specs.Laws.{PartsByLocation, HomesByLocation}
use Rattle.app_laws.specs.declared.child.Child.{Child}
use Rattle.app_laws.specs.Applications.{handed, IsTaken, IsEffect}
use Rattle.app_laws.specs.EffectLaws.{same_effects}
use Rattle.example_app.specs.Introduction.{AreContacts, IsMeeting, meeting_set, set_among, introduced, contact_after, meetings_after, children_of, line_of, introductions}
use Rattle.example_app.specs.Lawful.{IsAmong, named_from_among, written_from_guests, meeting_set-ascending, contact_is_one, home_is, met_fit, contact_of_guest, contact_of_other}

-- the contact of a person whose cell is home is one of the people
pub seen_fits : (people : ℕ) (cells : List (Cell ℕ)) (contacts : List ℕ) (person guest : ℕ) → AreContacts people contacts → AgreesWith cells contacts → person < people
    → Home guest ≡ cell_at cells person → guest < people
seen_fits people cells contacts person guest fit agrees below seen =
    subst (λ g. g < people) (sym (home_is people cells contacts person guest (omega (arith, fit.one_each)) agrees (sym seen))) (contact_is_one people contacts person fit below)

-- the bundle of a meeting, taken of these contacts
pub record IsHeld (people : ℕ) (task : Task) (bundle : Part ℕ) (contacts : List ℕ) : Type 0 where
  pub parts : PartsByLocation ℕ
  pub values : HomesByLocation ℕ
  pub meeting : IsMeeting people task.key.prio task.body
  pub fit : AreContacts people contacts
  pub is : bundle ≡ part_of (homes contacts) (set_among task.body contacts)

pub from_taken : {people : ℕ} {task : Task} {bundle : Part ℕ} → PartsByLocation ℕ → HomesByLocation ℕ → IsMeeting people task.key.prio task.body
    → (taken : IsTaken (introductions people) task bundle) → IsHeld people task bundle taken.cells
from_taken parts values meeting taken = record { parts = parts; values = values; meeting = meeting; fit = taken.fit; is = taken.is }

module _ {people : ℕ} {task : Task} {bundle : Part ℕ} {contacts : List ℕ} (held : IsHeld people task bundle contacts) where
  pub named_in_bundle : (loc : ℕ)
      → IsAmong task.body.at task.body.arg (slice_index contacts task.body.at) (slice_index contacts task.body.arg) loc → IsSome (access_at bundle.set loc)
  named_in_bundle loc among =
      subst (λ (part : Part ℕ). IsSome (access_at part.set loc)) (sym held.is)
      (named_from_among task.body.at task.body.arg (slice_index contacts task.body.at) (slice_index contacts task.body.arg) loc among)

  contact_found : (person guest : ℕ) → person < people
      → IsAmong task.body.at task.body.arg (slice_index contacts task.body.at) (slice_index contacts task.body.arg) person
      → cell_in bundle person ≡ Home guest → guest ≡ slice_index contacts person
  contact_found person guest below among found =
      let set = set_among task.body contacts in
      let named = named_from_among task.body.at task.body.arg (slice_index contacts task.body.at) (slice_index contacts task.body.arg) person among in
      let same : Home guest ≡ Home (slice_index contacts person) =
      sym found ∙ ap (λ part. cell_in part person) held.is ∙ held.parts.each (homes contacts) set person named ∙ held.values.in_range contacts person 0 (omega (arith, held.fit.one_each)) in
      (cc)

  pub guest_found : (guest : ℕ) → cell_in bundle task.body.at ≡ Home guest → guest ≡ slice_index contacts task.body.at
  guest_found guest found = contact_found task.body.at guest held.meeting.first (inl refl) found

  pub other_found : (other : ℕ) → cell_in bundle task.body.arg ≡ Home other → other ≡ slice_index contacts task.body.arg
  other_found other found = contact_found task.body.arg other held.meeting.second (inr (inl refl)) found

  pub guest_fits : (guest : ℕ) → cell_in bundle task.body.at ≡ Home guest → guest < people
  guest_fits guest found = rw (guest_found guest found) (contact_is_one people contacts task.body.at held.fit held.meeting.first)

  pub other_fits : (other : ℕ) → cell_in bundle task.body.arg ≡ Home other → other < people
  other_fits other found = rw (other_found other found) (contact_is_one people contacts task.body.arg held.fit held.meeting.second)

  written_in_bundle : (loc : ℕ) → (slice_index contacts task.body.at ≡ loc) ⊎ (slice_index contacts task.body.arg ≡ loc) → IsTrue (writes bundle.set loc)
  written_in_bundle loc guests =
      subst (λ (part : Part ℕ). IsTrue (writes part.set loc)) (sym held.is)
      (written_from_guests task.body.at task.body.arg (slice_index contacts task.body.at) (slice_index contacts task.body.arg) loc guests)

  pub guest_written : (guest : ℕ) → cell_in bundle task.body.at ≡ Home guest → IsTrue (writes bundle.set guest)
  guest_written guest found = written_in_bundle guest (inl (sym (guest_found guest found)))

  pub other_written : (other : ℕ) → cell_in bundle task.body.arg ≡ Home other → IsTrue (writes bundle.set other)
  other_written other found = written_in_bundle other (inr (sym (other_found other found)))

  -- the meetings that follow have their sets where the guests have met
  following_handed :
      let guest = slice_index contacts task.body.at in
      let other = slice_index contacts task.body.arg in
      children_of task.key.prio task.body guest other ≡ map (handed (introductions people) (introduced guest other contacts)) (meetings_after task.key.prio task.body guest other)
  following_handed = following (task.body.kind == 0)
    where
      guest : ℕ
      guest = slice_index contacts task.body.at

      other : ℕ
      other = slice_index contacts task.body.arg

      known : ℕ → ℕ
      known person = slice_index (introduced guest other contacts) person

      known-is : (person : ℕ) → contact_after guest other person (slice_index contacts person) ≡ known person
      known-is person =
          sym (met_fit people guest other contacts person held.fit (contact_is_one people contacts task.body.at held.fit held.meeting.first) (contact_is_one people contacts task.body.arg held.fit held.meeting.second))

      first-set : meeting_set guest task.body.arg other (contact_after guest other task.body.arg other) ≡ meeting_set guest task.body.arg (known guest) (known task.body.arg)
      first-set =
          ap (λ x. meeting_set guest task.body.arg x (contact_after guest other task.body.arg other)) (sym (contact_of_guest people guest other (slice_index contacts guest)) ∙ known-is guest)
          ∙ ap (λ y. meeting_set guest task.body.arg (known guest) y) (known-is task.body.arg)

      second-set : meeting_set task.body.at other (contact_after guest other task.body.at guest) guest ≡ meeting_set task.body.at other (known task.body.at) (known other)
      second-set =
          ap (λ x. meeting_set task.body.at other x guest) (known-is task.body.at)
          ∙ ap (λ y. meeting_set task.body.at other (known task.body.at) y) (sym (contact_of_other people guest other (slice_index contacts other)) ∙ known-is other)

      following : (last : Bool) →
          (if last then [] else
          record { prio = task.key.prio; body = record { kind = task.body.kind - 1; at = guest; arg = task.body.arg }; set = meeting_set guest task.body.arg other (contact_after guest other task.body.arg other) }
          ∷ record { prio = task.key.prio + 1; body = record { kind = task.body.kind - 1; at = task.body.at; arg = other }; set = meeting_set task.body.at other (contact_after guest other task.body.at guest) guest }
          ∷ [])
          ≡ map (handed (introductions people) (introduced guest other contacts))
          (if last then [] else
          record { prio = task.key.prio; body = record { kind = task.body.kind - 1; at = guest; arg = task.body.arg } }
          ∷ record { prio = task.key.prio + 1; body = record { kind = task.body.kind - 1; at = task.body.at; arg = other } }
          ∷ [])
      following true = refl
      following false = rw (first-set, second-set) refl

  -- what is written to the bundle makes it that of the new contacts
  rewritten_bundle :
      let guest = slice_index contacts task.body.at in
      let other = slice_index contacts task.body.arg in
      with_value (with_value bundle guest other) other guest ≡ part_of (homes (introduced guest other contacts)) (set_among task.body contacts)
  rewritten_bundle =
      let guest = slice_index contacts task.body.at in
      let other = slice_index contacts task.body.arg in
      let up = meeting_set-ascending task.body.at task.body.arg guest other in
      let guest-one = contact_is_one people contacts task.body.at held.fit held.meeting.first in
      let other-one = contact_is_one people contacts task.body.arg held.fit held.meeting.second in
      ap (λ part. with_value (with_value part guest other) other guest) held.is
      ∙ ap (λ part. with_value part other guest) (held.values.written contacts (set_among task.body contacts) guest other up (omega (arith, held.fit.one_each)))
      ∙ held.values.written (slice_set contacts guest other) (set_among task.body contacts) other guest up (omega (arith, held.fit.one_each, length-set contacts guest other))

-- what a meeting leaves is the operator's effect, whoever the other contacts are
pub effect_found : {people : ℕ} (task : Task) {bundle : Part ℕ} → PartsByLocation ℕ → HomesByLocation ℕ → IsMeeting people task.key.prio task.body
    → (guest other met met-other : ℕ) (children : List Child) (text : List ℕ) → cell_in bundle task.body.at ≡ Home guest → cell_in bundle task.body.arg ≡ Home other
    → met ≡ other → met-other ≡ guest → children ≡ children_of task.key.prio task.body guest other → text ≡ line_of guest other
    → IsEffect (introductions people) task bundle (record { bundle = with_value (with_value bundle guest met) other met-other; children = children; text = text })
effect_found {people} task {bundle} parts values meeting guest other met met-other children text found other-is met-is met-other-is children-are text-is contacts fit is =
    let held : IsHeld people task bundle contacts = record { parts = parts; values = values; meeting = meeting; fit = fit; is = is } in
    let first = guest_found held guest found in
    let second = other_found held other other-is in
    let prio = task.key.prio in
    same_effects
    (ap (λ o. with_value (with_value bundle guest o) other met-other) met-is ∙ ap (λ g. with_value (with_value bundle guest other) other g) met-other-is
    ∙ ap (λ g. with_value (with_value bundle g other) other g) first
    ∙ ap (λ o. with_value (with_value bundle (slice_index contacts task.body.at) o) o (slice_index contacts task.body.at)) second ∙ rewritten_bundle held)
    (children-are ∙ ap (λ g. children_of prio task.body g other) first ∙ ap (λ o. children_of prio task.body (slice_index contacts task.body.at) o) second ∙ following_handed held)
    (text-is ∙ ap (λ g. line_of g other) first ∙ ap (λ o. line_of (slice_index contacts task.body.at) o) second)
