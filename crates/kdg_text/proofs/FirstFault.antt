-- The first fault of lines.
use Rattle.std.proofs.Common.{arith, refl, sym, ap, subst, ◌≡◌, [], ◌∷◌, ◌++◌, ◌⊎◌, inl, inr, List, Option, Some, None, append_assoc, append-nil, length, length-append}
use Rattle.std.specs.Option.{option_or, option_map}
use Rattle.kdg_text.specs.declared.fault.Fault.{Fault}
use Rattle.kdg_text.specs.declared.fault.LineFault.{LineFault}
use Rattle.kdg_text.specs.Faults.{Numbered, fault_on, first_fault_after, first_fault, IsFaultless, IsFirstFault}

abbrev Judge : Type 0 → Type 0
Judge L = List (Numbered L) → L → Option LineFault

-- a front of a list with one more is that list, or a front of it
front_of-push : {X : Type 0} (before front : List X) (x l : X) (after : List X) → front ++ x ∷ [] ≡ before ++ l ∷ after
    → ((before ≡ front) × (l ≡ x)) ⊎ ((rest : List X) × (front ≡ before ++ l ∷ rest))
front_of-push [] [] x l after same = inl (refl, cc)
front_of-push [] (f ∷ fs) x l after same = inr (fs, cc)
front_of-push (b ∷ bs) [] x l after same =
    let empty : [] ≡ bs ++ l ∷ after = cc in
    absurd (omega (arith, ap length empty, length-append bs (l ∷ after)))
front_of-push (b ∷ bs) (f ∷ fs) x l after same =
    let tails : fs ++ x ∷ [] ≡ bs ++ l ∷ after = cc in
    let heads : f ≡ b = cc in
    elim (front_of-push bs fs x l after tails) [
      | inl whole ↦ let front = whole.0 in inl (cc, whole.1)
      | inr part ↦ let rest = part.1 in inr (part.0, cc)
    ]

IsFaultless-push : {L : Type 0} (judge : Judge L) (front : List (Numbered L)) (line : Numbered L) → IsFaultless judge front → judge front line.form ≡ None → IsFaultless judge (front ++ line ∷ [])
IsFaultless-push judge front line faultless here before l after same =
    elim (front_of-push before front line l after same) [
      | inl whole ↦ let front_is = whole.0 in let line_is = whole.1 in rw (front_is, line_is) here
      | inr part ↦ faultless before l part.0 part.1
    ]

IsFaultless-none : {L : Type 0} (judge : Judge L) → IsFaultless judge []
IsFaultless-none judge before l after same = absurd (omega (arith, ap length same, length-append before (l ∷ after)))

found_after : {L : Type 0} (judge : Judge L) (front lines : List (Numbered L)) (fault : Fault) → IsFaultless judge front → first_fault_after judge front lines ≡ Some fault → IsFirstFault judge (front ++ lines) fault
found_after judge front [] fault faultless found = cc
found_after judge front (line ∷ lines) fault faultless found =
    by_cases (judge front line.form) refl (λ judged. found_after judge (front ++ line ∷ []) lines fault (IsFaultless-push judge front line faultless judged)) found
  where
    by_cases : (wrong : Option LineFault) → judge front line.form ≡ wrong
        → (judge front line.form ≡ None → first_fault_after judge (front ++ line ∷ []) lines ≡ Some fault → IsFirstFault judge ((front ++ line ∷ []) ++ lines) fault)
        → option_or (option_map (fault_on line.number) wrong) (first_fault_after judge (front ++ line ∷ []) lines) ≡ Some fault
        → IsFirstFault judge (front ++ line ∷ lines) fault
    by_cases (Some wrong) judged later found = record {
      before = front;
      line = line;
      after = lines;
      wrong = wrong;
      whole = refl;
      faultless = faultless;
      judged = judged;
      answer = cc;
    }
    by_cases None judged later found =
        subst (λ (all : List (Numbered _)). IsFirstFault judge all fault) (append_assoc front (line ∷ []) lines) (later judged found)

none_after : {L : Type 0} (judge : Judge L) (front lines : List (Numbered L)) → IsFaultless judge front → first_fault_after judge front lines ≡ None → IsFaultless judge (front ++ lines)
none_after judge front [] faultless found = subst (IsFaultless judge) (sym (append-nil front)) faultless
none_after judge front (line ∷ lines) faultless found =
    by_cases (judge front line.form) refl (λ judged. none_after judge (front ++ line ∷ []) lines (IsFaultless-push judge front line faultless judged)) found
  where
    by_cases : (wrong : Option LineFault) → judge front line.form ≡ wrong
        → (judge front line.form ≡ None → first_fault_after judge (front ++ line ∷ []) lines ≡ None → IsFaultless judge ((front ++ line ∷ []) ++ lines))
        → option_or (option_map (fault_on line.number) wrong) (first_fault_after judge (front ++ line ∷ []) lines) ≡ None
        → IsFaultless judge (front ++ line ∷ lines)
    by_cases (Some wrong) judged later found = cc
    by_cases None judged later found = subst (IsFaultless judge) (append_assoc front (line ∷ []) lines) (later judged found)

pub first_fault-found : {L : Type 0} (judge : Judge L) (lines : List (Numbered L)) (fault : Fault) → first_fault judge lines ≡ Some fault → IsFirstFault judge lines fault
first_fault-found judge lines fault found = found_after judge [] lines fault (IsFaultless-none judge) found

pub first_fault-none : {L : Type 0} (judge : Judge L) (lines : List (Numbered L)) → first_fault judge lines ≡ None → IsFaultless judge lines
first_fault-none judge lines found = none_after judge [] lines (IsFaultless-none judge) found
