-- Each mesh that bytes spell is sound.
use Rattle.std.proofs.Common.{arith, refl, sym, ap, subst, ◌∙◌, ◌≡◌, ◌≢◌, ◌≤◌, ◌+◌, ◌==◌, ◌&&◌, not, true, false, ℕ, ℤ, pos, [], ◌∷◌, ◌++◌, List, Bool, Option, Some, None, Result, Ok, Err, IfOk, cond, length, nat_le, append-nil, append_assoc, length-append, ◌≤ℤ◌, int_le}
use Rattle.std.proofs.lemmas.Bool.{and_parts}
use Rattle.std.proofs.lemmas.Bool.Decides.{nat_tests}
use Rattle.std.proofs.lemmas.Int.{ints}
use Rattle.std.proofs.lemmas.List.Elements.{All-nil, All-push, All-weaker}
use Rattle.std.specs.List.{All, AllByRecursion}
use Rattle.std.specs.Option.{option_map_or}
use Rattle.std.specs.Str.{bytes_eq}
use Rattle.plain_laws.specs.Bools.{true_from_not}
use Rattle.plain_laws.specs.Options.{option_or-both_none}
use Rattle.kdg_text.specs.Lines.{lines_of}
use Rattle.kdg_text.specs.Tokens.{tokens_of}
use Rattle.kdg_text.specs.Numbers.{u64_of, i64_of}
use Rattle.kdg_text.specs.declared.fault.LineFault.{LineFault}
use Rattle.kdg_text.specs.declared.fault.ReadFail.{ReadFail}
use Rattle.kdg_text.specs.declared.number.NumFault.{NumFault}
use Rattle.kdg_text.specs.Faults.{Numbered, Answers, before_comment, forms_from, first_fault, first_fault_after}
use Rattle.kdg_text.specs.FaultLaws.{fits_first, faultless, not_where}
use Rattle.spring_mesh.specs.declared.draft.Draft.{Draft}
use Rattle.spring_mesh.specs.declared.file.MeshFile.{MeshFile}
use Rattle.spring_mesh.specs.declared.file.MeshNode.{MeshNode}
use Rattle.spring_mesh.specs.declared.file.Spring.{Spring}
use Rattle.spring_mesh.specs.declared.statement.SpringDraft.{SpringDraft}
use Rattle.spring_mesh.specs.declared.statement.Statement.TheVariants as says
use Rattle.spring_mesh.specs.Faults.{syntax, bad_number}
use Rattle.spring_mesh.specs.LineForms.{LineForm, reach, most_stiffness, most_mass, latest, allowed, is_within_reach, is_stiffness, is_between, coordinate_of, stiffness_of, number_in, any_number, with_number, node_by, spring_by, end_by, form_by, form_of_words, form_of, comment}
use Rattle.spring_mesh.specs.Files.{most_nodes, most_springs, is_one_of, are_two_of, form_fault, line_fault, spring_from, IsWithin, IsNode, IsMass, IsSpring, IsMesh, end_of, file_with}
use Rattle.spring_mesh.specs.Grammar.{said_lines, mesh_of}
use Rattle.spring_mesh.specs.Drafts.{draft_of, draft_fault, draft_with, draft_plus, ended}
use Rattle.spring_mesh.proofs.Reading.{draft_of-push}

-- a spring's numbers are in their ranges, but for its ends
record IsRanged (draft : SpringDraft) : Type 0 where
  not_negative : pos 0 ≤ℤ draft.k
  stiffness : draft.k ≤ℤ pos most_stiffness
  rx : IsWithin reach draft.rx
  ry : IsWithin reach draft.ry
  some : 1 ≤ draft.h
  period : draft.h ≤ latest

-- what a form has that a line says
abbrev IsGood : LineForm → Type 0
IsGood (Ok (says.Node node mass)) = IsNode node × (node.time ≡ 0) × IsMass mass
IsGood (Ok (says.Spring draft)) = IsRanged draft
IsGood (Ok (says.End time)) = time ≤ latest
IsGood (Err fault) = Unit {0}

allowed-good : {N : Type 0} (P : N → Type 0) (test : N → Bool) (n : Result N NumFault) → ((n : N) → test n ≡ true → P n) → IfOk (allowed test n) P
allowed-good P test (Err fault) tells = tt
allowed-good P test (Ok n) tells = by_test (test n) (tells n)
  where
    by_test : (b : Bool) → (b ≡ true → P n) → IfOk (cond b (Ok n) (Err bad_number)) P
    by_test true known = known refl
    by_test false known = tt

within_reach : (n : ℤ) → is_within_reach n ≡ true → IsWithin reach n
within_reach n test = grind (arith, nat_tests)

coordinate_of-good : (word : List ℕ) → IfOk (coordinate_of word) (IsWithin reach)
coordinate_of-good word = allowed-good (IsWithin reach) is_within_reach (i64_of word) within_reach

abbrev IsStiffness : ℤ → Type 0
IsStiffness n = (pos 0 ≤ℤ n) × (n ≤ℤ pos most_stiffness)

from_int_le : (a b : ℤ) → int_le a b ≡ true → a ≤ℤ b
from_int_le a b test = grind (arith, ints)

stiffness : (n : ℤ) → is_stiffness n ≡ true → IsStiffness n
stiffness n test =
    let tests = and_parts (int_le (pos 0) n) (int_le n (pos most_stiffness)) test in
    (from_int_le (pos 0) n tests.0, from_int_le n (pos most_stiffness) tests.1)

stiffness_of-good : (word : List ℕ) → IfOk (stiffness_of word) IsStiffness
stiffness_of-good word = allowed-good IsStiffness is_stiffness (i64_of word) stiffness

between : (low high n : ℕ) → is_between low high n ≡ true → (low ≤ n) × (n ≤ high)
between low high n test =
    let tests = and_parts (nat_le low n) (nat_le n high) test in
    let above : nat_le low n ≡ true = tests.0 in
    let below : nat_le n high ≡ true = tests.1 in
    (grind (arith, nat_tests), grind (arith, nat_tests))

number_in-good : (low high : ℕ) (word : List ℕ) → IfOk (number_in low high word) (λ n. (low ≤ n) × (n ≤ high))
number_in-good low high word = allowed-good (λ n. (low ≤ n) × (n ≤ high)) (is_between low high) (u64_of word) (between low high)

any_number-good : (word : List ℕ) → IfOk (any_number word) (λ n. Unit {0})
any_number-good word = allowed-good (λ n. Unit {0}) (λ n. true) (u64_of word) (λ n h. tt)

with_number-good : {N : Type 0} (P : N → Type 0) (n : Result N LineFault) (said : N → LineForm) → IfOk n P → ((n : N) → P n → IsGood (said n)) → IsGood (with_number n said)
with_number-good P (Ok n) said good says = says n good
with_number-good P (Err fault) said good says = tt

mass_is : (n : ℕ) → 1 ≤ n → n ≤ most_mass → IsMass (pos n)
mass_is n low high = record { some = omega (arith, ints); most = omega (arith, ints) }

node_by-good : (words : List (List ℕ)) → IsGood (node_by words)
node_by-good (x ∷ y ∷ vx ∷ vy ∷ mass ∷ []) =
    with_number-good (IsWithin reach) (coordinate_of x) _ (coordinate_of-good x) (λ x x-in.
    with_number-good (IsWithin reach) (coordinate_of y) _ (coordinate_of-good y) (λ y y-in.
    with_number-good (IsWithin reach) (coordinate_of vx) _ (coordinate_of-good vx) (λ vx vx-in.
    with_number-good (IsWithin reach) (coordinate_of vy) _ (coordinate_of-good vy) (λ vy vy-in.
    with_number-good (λ n. (1 ≤ n) × (n ≤ most_mass)) (number_in 1 most_mass mass) _ (number_in-good 1 most_mass mass) (λ mass mass-in.
    (record { x = x-in; y = y-in; vx = vx-in; vy = vy-in; time = omega arith }, refl, mass_is mass mass-in.0 mass-in.1))))))
node_by-good _ = tt

spring_by-good : (words : List (List ℕ)) → IsGood (spring_by words)
spring_by-good (a ∷ b ∷ k ∷ rx ∷ ry ∷ h ∷ []) =
    with_number-good (λ n. Unit {0}) (any_number a) _ (any_number-good a) (λ a a-in.
    with_number-good (λ n. Unit {0}) (any_number b) _ (any_number-good b) (λ b b-in.
    with_number-good IsStiffness (stiffness_of k) _ (stiffness_of-good k) (λ k k-in.
    with_number-good (IsWithin reach) (coordinate_of rx) _ (coordinate_of-good rx) (λ rx rx-in.
    with_number-good (IsWithin reach) (coordinate_of ry) _ (coordinate_of-good ry) (λ ry ry-in.
    with_number-good (λ n. (1 ≤ n) × (n ≤ latest)) (number_in 1 latest h) _ (number_in-good 1 latest h) (λ h h-in.
    record { not_negative = k-in.0; stiffness = k-in.1; rx = rx-in; ry = ry-in; some = h-in.0; period = h-in.1 }))))))
spring_by-good _ = tt

end_by-good : (words : List (List ℕ)) → IsGood (end_by words)
end_by-good (time ∷ []) = with_number-good (λ n. (0 ≤ n) × (n ≤ latest)) (number_in 0 latest time) _ (number_in-good 0 latest time) (λ time time-in. time-in.1)
end_by-good _ = tt

chosen : (test : Bool) (x y : LineForm) → IsGood x → IsGood y → IsGood (cond test x y)
chosen true x y good other = good
chosen false x y good other = other

form_by-good : (word : List ℕ) (words : List (List ℕ)) → IsGood (form_by word words)
form_by-good word words =
    chosen (bytes_eq word (110 ∷ 111 ∷ 100 ∷ 101 ∷ [])) (node_by words) _ (node_by-good words)
    (chosen (bytes_eq word (115 ∷ 112 ∷ 114 ∷ 105 ∷ 110 ∷ 103 ∷ [])) (spring_by words) _ (spring_by-good words)
    (chosen (bytes_eq word (101 ∷ 110 ∷ 100 ∷ [])) (end_by words) (Err syntax) (end_by-good words) tt))

form_of_words-good : (words : List (List ℕ)) (form : LineForm) → form_of_words words ≡ Some form → IsGood form
form_of_words-good [] form said = cc
form_of_words-good (word ∷ words) form said = let same : form_by word words ≡ form = cc in subst IsGood same (form_by-good word words)

abbrev AreGood : List (Numbered LineForm) → Type 0
AreGood lines = AllByRecursion (λ (line : Numbered LineForm). IsGood line.form) lines

forms_from-good : (lines : List (List ℕ)) (n : ℕ) → AreGood (forms_from form_of n lines)
forms_from-good [] n = tt
forms_from-good (line ∷ lines) n = by_form (form_of line) (form_of_words-good (tokens_of [] (before_comment comment line))) _ (forms_from-good lines _)
  where
    by_form : (o : Option LineForm) → ((form : LineForm) → o ≡ Some form → IsGood form) → (rest : List (Numbered LineForm)) → AreGood rest → AreGood (option_map_or (λ form. record { number = n; form = form } ∷ rest) o rest)
    by_form None good rest rest_good = rest_good
    by_form (Some form) good rest rest_good = (good form refl, rest_good)

-- the mesh of a draft that ends then
abbrev until : Draft → ℕ → MeshFile
until draft end = record { nodes = draft.nodes; masses = draft.masses; springs = draft.springs; end = end }

-- what was drafted is sound, and so is an end
record IsSound (draft : Draft) : Type 0 where
  mesh : IsMesh (until draft 0)
  end : (end : ℕ) → draft.end ≡ Some end → end ≤ latest

fewer : (most n : ℕ) → nat_le most n ≡ false → n + 1 ≤ most
fewer most n test = grind (arith, nat_tests)

one_more : {X : Type 0} (xs : List X) (x : X) → length (xs ++ x ∷ []) ≡ length xs + 1
one_more xs x = omega (arith, length-append xs (x ∷ []))

wider : (n : ℕ) (spring : Spring) → IsSpring n spring → IsSpring (n + 1) spring
wider n spring is = record {
  a = omega (arith, is.a);
  b = omega (arith, is.b);
  two = is.two;
  not_negative = is.not_negative;
  stiffness = is.stiffness;
  rx = is.rx;
  ry = is.ry;
  some = is.some;
  period = is.period;
}

one_of : (nodes number : ℕ) → is_one_of nodes number ≡ true → (1 ≤ number) × (number ≤ nodes)
one_of nodes number test = between 1 nodes number test

apart : (a b : ℕ) → not (a == b) ≡ true → a ≢ b
apart a b test same = grind (arith, nat_tests)

spring_fits : (nodes : ℕ) (draft : SpringDraft) → IsRanged draft → are_two_of nodes draft ≡ true → IsSpring nodes (spring_from draft)
spring_fits nodes draft ranged test =
    let last = and_parts (is_one_of nodes draft.a && is_one_of nodes draft.b) (not (draft.a == draft.b)) test in
    let ends = and_parts (is_one_of nodes draft.a) (is_one_of nodes draft.b) last.0 in
    let a = one_of nodes draft.a ends.0 in
    let b = one_of nodes draft.b ends.1 in
    let two = apart draft.a draft.b last.1 in
    record {
      a = omega (arith, a.0, a.1);
      b = omega (arith, b.0, b.1);
      two = λ same. two (omega (arith, a.0, b.0, same));
      not_negative = ranged.not_negative;
      stiffness = ranged.stiffness;
      rx = ranged.rx;
      ry = ranged.ry;
      some = ranged.some;
      period = ranged.period;
    }

node-added : (draft : Draft) (node : MeshNode) (mass : ℤ) → IsNode node × (node.time ≡ 0) × IsMass mass → length draft.nodes + 1 ≤ most_nodes → IsMesh (until draft 0)
    → IsMesh (until (draft_with draft (says.Node node mass)) 0)
node-added draft node mass good few mesh = record {
  node_count = omega (arith, one_more draft.nodes node);
  spring_count = mesh.spring_count;
  mass_count = one_more draft.masses mass ∙ ap (λ n. n + 1) mesh.mass_count ∙ sym (one_more draft.nodes node);
  nodes = All-push IsNode draft.nodes node mesh.nodes good.0;
  start = All-push (λ (node : MeshNode). node.time ≡ 0) draft.nodes node mesh.start good.1;
  masses = All-push IsMass draft.masses mass mesh.masses good.2;
  springs = subst (λ n. All (IsSpring n) draft.springs) (sym (one_more draft.nodes node))
      (All-weaker (IsSpring (length draft.nodes)) (IsSpring (length draft.nodes + 1)) (wider (length draft.nodes)) draft.springs mesh.springs);
  end = omega arith;
}

spring-added : (draft : Draft) (spring : SpringDraft) → IsRanged spring → are_two_of (length draft.nodes) spring ≡ true → length draft.springs + 1 ≤ most_springs → IsMesh (until draft 0)
    → IsMesh (until (draft_with draft (says.Spring spring)) 0)
spring-added draft spring ranged two few mesh = record {
  node_count = mesh.node_count;
  spring_count = omega (arith, one_more draft.springs (spring_from spring));
  mass_count = mesh.mass_count;
  nodes = mesh.nodes;
  start = mesh.start;
  masses = mesh.masses;
  springs = All-push (IsSpring (length draft.nodes)) draft.springs (spring_from spring) mesh.springs (spring_fits (length draft.nodes) spring ranged two);
  end = omega arith;
}

-- a line that fits keeps a draft sound
sound-plus : (draft : Draft) (form : LineForm) → IsGood form → form_fault (length draft.nodes) (length draft.springs) form ≡ None → IsSound draft → IsSound (draft_plus draft form)
sound-plus draft (Ok (says.Node node mass)) good fits sound = record {
  mesh = node-added draft node mass good (fewer most_nodes (length draft.nodes) (not_where _ _ fits)) sound.mesh;
  end = sound.end;
}
sound-plus draft (Ok (says.Spring spring)) good fits sound =
    let parts = option_or-both_none _ _ fits in
    record {
      mesh = spring-added draft spring good (true_from_not _ (not_where _ _ parts.0)) (fewer most_springs (length draft.springs) (not_where _ _ parts.1)) sound.mesh;
      end = sound.end;
    }
sound-plus draft (Ok (says.End time)) good fits sound = record {
  mesh = sound.mesh;
  end = λ end is. let same : time ≡ end = cc in subst (λ t. t ≤ latest) same good;
}
sound-plus draft (Err fault) good fits sound = cc

-- a draft of few nodes stays one
pub few-plus : (draft after : Draft) (form : LineForm) → after ≡ draft_plus draft form → draft_fault draft form ≡ None → length draft.nodes ≤ 4096 → length after.nodes ≤ 4096
few-plus draft after form added fits few = rw added (by_form form (option_or-both_none _ _ fits).1)
  where
    by_form : (form : LineForm) → form_fault (length draft.nodes) (length draft.springs) form ≡ None → length (draft_plus draft form).nodes ≤ 4096
    by_form (Ok (says.Node node mass)) fits = let room = fewer most_nodes (length draft.nodes) (not_where _ _ fits) in omega (arith, one_more draft.nodes node)
    by_form (Ok (says.Spring spring)) fits = few
    by_form (Ok (says.End time)) fits = few
    by_form (Err fault) fits = few

-- the ends of a spring that fits are two of the nodes
pub ends-fit : (nodes springs : ℕ) (draft : SpringDraft) → nodes ≤ 4096 → form_fault nodes springs (Ok (says.Spring draft)) ≡ None
    → ((1 ≤ draft.a) × (draft.a ≤ 4096)) × ((1 ≤ draft.b) × (draft.b ≤ 4096))
ends-fit nodes springs draft few fits =
    let two = true_from_not (are_two_of nodes draft) (not_where _ _ (option_or-both_none _ _ fits).0) in
    let last = and_parts (is_one_of nodes draft.a && is_one_of nodes draft.b) (not (draft.a == draft.b)) two in
    let ends = and_parts (is_one_of nodes draft.a) (is_one_of nodes draft.b) last.0 in
    let a = one_of nodes draft.a ends.0 in
    let b = one_of nodes draft.b ends.1 in
    ((a.0, omega (arith, a.1)), (b.0, omega (arith, b.1)))

sound-none : IsSound (draft_of [])
sound-none = record {
  mesh = record {
    node_count = omega arith;
    spring_count = omega arith;
    mass_count = refl;
    nodes = All-nil IsNode;
    start = All-nil (λ (node : MeshNode). node.time ≡ 0);
    masses = All-nil IsMass;
    springs = All-nil (IsSpring 0);
    end = omega arith;
  };
  end = λ end is. cc;
}

sound-after : (before rest : List (Numbered LineForm)) → AreGood rest → IsSound (draft_of before) → first_fault_after line_fault before rest ≡ None → IsSound (draft_of (before ++ rest))
sound-after before [] good sound none = rw (append-nil before) sound
sound-after before (line ∷ rest) good sound none =
    let fits = fits_first (line_fault before line.form) line.number _ none in
    let more : IsSound (draft_of (before ++ line ∷ [])) = rw (draft_of-push before line fits.0) (sound-plus (draft_of before) line.form good.0 (option_or-both_none _ _ fits.0).1 sound) in
    subst (λ lines. IsSound (draft_of lines)) (append_assoc before (line ∷ []) rest) (sound-after (before ++ line ∷ []) rest good.1 more fits.1)

ended-sound : (draft : Draft) (behind : ℕ) (end : Option ℕ) (file : MeshFile) → draft.end ≡ end → IsSound draft → ended draft behind end ≡ Ok file → IsMesh file
ended-sound draft behind (Some end) file is sound made =
    let same : until draft end ≡ file = cc in
    let mesh = sound.mesh in
    subst IsMesh same (record {
      node_count = mesh.node_count;
      spring_count = mesh.spring_count;
      mass_count = mesh.mass_count;
      nodes = mesh.nodes;
      start = mesh.start;
      masses = mesh.masses;
      springs = mesh.springs;
      end = sound.end end is;
    })
ended-sound draft behind None file is sound made = cc

-- each mesh that bytes spell is sound
mesh_of-sound : (input : List ℕ) (file : MeshFile) → mesh_of input ≡ Ok file → IsMesh file
unfolding mesh_of
mesh_of-sound input file spelled =
    let lines = said_lines input in
    let behind = length (lines_of input) + 1 in
    let parts = faultless (first_fault line_fault lines) (file_with behind lines (end_of lines)) file spelled in
    ended-sound (draft_of lines) behind (end_of lines) file refl (sound-after [] lines (forms_from-good (lines_of input) 1) sound-none parts.0) (same_file (end_of lines) behind lines file parts.1)
  where
    same_file : (end : Option ℕ) (behind : ℕ) (lines : List (Numbered LineForm)) (file : MeshFile) → file_with behind lines end ≡ Ok file → ended (draft_of lines) behind end ≡ Ok file
    same_file (Some end) behind lines file made = made
    same_file None behind lines file made = made

pub result-sound : (input : List ℕ) (result : Result MeshFile ReadFail) → Answers result (mesh_of input) → IfOk result IsMesh
result-sound input (Ok file) given = mesh_of-sound input file given
result-sound input (Err error) given = tt
