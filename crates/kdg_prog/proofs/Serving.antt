-- What is made of a sink where a print is written at once, where there is none, and where it goes out in pieces.
use Rattle.std.proofs.Common.{◌≡◌, ℕ, ◌+◌, ◌≤◌, List, [], ◌++◌, append-nil, length, take, length-append, Option, Ok, Err, refl, sym, ap, subst, ◌∙◌, inl, inr, arith}
use Rattle.std.proofs.Math.Seq.{take-append-add}
use Rattle.std.proofs.lemmas.List.{take-append-le}
use Rattle.std.specs.Prelude.{IfOk, IfErr, IsErrAnd, Result}
use Rattle.std.specs.Io.KnownBytes.{Appends}
use Rattle.std.proofs.KnownBytes.{Appends-trans}
use Rattle.kdg_text.specs.declared.fault.Fault.{Fault}
use Rattle.kdg_text.specs.declared.fault.ReadFail.{ReadFail}
use Rattle.kdg_text.specs.declared.fault.ReadFail.TheVariants as reader
use Rattle.outer_edge.specs.Transfers.{Transfer}
use Rattle.outer_edge.specs.Writing.{AppendsFront}
use Rattle.logic_sim.specs.Event.{Simulation}
use Rattle.mtx_reader.specs.declared.pattern.Pattern.{Pattern}
use Rattle.spring_mesh.specs.declared.file.MeshFile.{MeshFile}
use Rattle.kdg_prog.specs.declared.status.Status.{Status}
use Rattle.kdg_prog.specs.declared.status.Status.TheVariants as status
use Rattle.kdg_prog.specs.declared.words.Command.{Command}
use Rattle.kdg_prog.specs.declared.words.Command.TheVariants.{Mesh, Rank, Sim}
use Rattle.kdg_prog.specs.declared.words.Options.{Options}
use Rattle.kdg_prog.specs.Answer.{Answer, answer_for, log_for, whole_print, circuit_problem, deck_problem, mesh_problem, pattern_problem, simulation_of, FirstPassesFor, KeepsFor}
use Rattle.kdg_prog.specs.Inputs.{deck_for, mesh_for, pattern_for}
use Rattle.kdg_prog.specs.Problem.{Problem, StreamsRounds, answer_by, answer_read, log_read, log_within, FirstPassesIn, FirstPassesRead, KeepsRead, KeepsText}
use Rattle.kdg_prog.specs.Refusals.{AnswersReader, IsAtStart, IsBeforeStart, IsRefusalBy, IsRefusalFor, IsRunRefusal}
use Rattle.kdg_prog.specs.Serving.{IsRunServed, IsServed, IsServedBy, IsServedFor, IsWritten, WritesNothing}
use Rattle.kdg_prog.proofs.Promising.{fault_kinds}

-- a front of the last piece, as a front of all
pub front_behind : (a b c : Option (List ℕ)) (front piece : List ℕ) → Appends a b front → AppendsFront b c piece → AppendsFront a c (front ++ piece)
front_behind a b c front piece first last =
    let within : length front + last.0 ≤ length (front ++ piece) = omega (arith, length-append front piece, last.1) in
    (length front + last.0, within, subst (Appends a c) (sym (take-append-add front piece last.0)) (Appends-trans a b c front (take last.0 piece) first last.2))

-- all of the front of a text
pub front_of : (a b : Option (List ℕ)) (front rest : List ℕ) → Appends a b front → AppendsFront a b (front ++ rest)
front_of a b front rest first =
    let within : length front + 0 ≤ length (front ++ rest) = omega (arith, length-append front rest) in
    (length front + 0, within, subst (Appends a b) (sym (take-append-add front rest 0 ∙ append-nil front)) first)

-- a front of a front
pub front_of_longer : (a b : Option (List ℕ)) (front rest : List ℕ) → AppendsFront a b front → AppendsFront a b (front ++ rest)
front_of_longer a b front rest first =
    let within : first.0 ≤ length (front ++ rest) = omega (arith, length-append front rest, first.1) in
    (first.0, within, subst (Appends a b) (sym (take-append-le first.0 front rest first.1)) first.2)

pub front_of_nothing : (a b : Option (List ℕ)) (text : List ℕ) → Appends a b [] → AppendsFront a b text
front_of_nothing a b text nothing = (0, omega arith, nothing)

-- what is so of a fault is so of a result that hands it on
pub of_error : {T : Type 0} (P : Result T Status → Type 0) (fault : Status) (result : Result T Status) → IsErrAnd result (λ answer. answer ≡ fault) → P (Err fault) → P result
of_error P fault (Ok done) told is = absurd told
of_error P fault (Err answer) told is = subst (λ (a : Status). P (Err a)) (sym told) is

module _ (is : Answer) (First : ℕ → Type 0) (log : List ℕ) (Keeps : List ℕ → Type 0) (options : Options) (sink : Transfer) where
  -- there is no print, and nothing was written
  pub served_unwritten : (answer : Status) → IsRefusalBy is First options answer → ((created limit : ℕ) → answer ≡ status.Budget created limit → StreamsRounds options → Keeps [])
      → WritesNothing sink → sink.faults_after ≡ sink.faults_before → IsServedBy {T = Unit {0}} is First log Keeps options sink (Err answer)
  served_unwritten answer refused keeps nothing same = inr (
    refused,
    record {
      front = front_of_nothing sink.before sink.after log nothing;
      kept = λ created limit told streams fine. ([], keeps created limit told streams, nothing);
      told = λ never. same;
    },
  )

  -- the same where it was handed on
  pub unwritten_from : {T : Type 0} (fault : Status) (result : Result T Status) → IsErrAnd result (λ answer. answer ≡ fault) → IsRefusalBy is First options fault → ((created limit : ℕ) → fault ≡ status.Budget created limit → StreamsRounds options → Keeps [])
      → WritesNothing sink → sink.faults_after ≡ sink.faults_before → IsServedBy is First log Keeps options sink result
  unwritten_from {T} fault result told refused keeps nothing same =
      of_error (IsServedBy {T = T} is First log Keeps options sink) fault result told (served_unwritten fault refused keeps nothing same)

  -- the print, or why there is none, was told at once
  pub served_at_once : {T : Type 0} (print : Result (List ℕ) Status) (result : Result T Status) → IfOk print (λ bytes. is ≡ whole_print bytes) → IfErr print (IsRefusalBy is First options)
      → IfErr print (λ answer. (created limit : ℕ) → answer ≡ status.Budget created limit → StreamsRounds options → Keeps []) → IsWritten print sink result → IsServedBy is First log Keeps options sink result
  served_at_once (Ok bytes) (Ok done) printed refused keeps written = (bytes, printed, written.0, written.1)
  served_at_once (Ok bytes) (Err answer) printed refused keeps written = inl ((bytes, printed, written.0, written.1), written.2)
  served_at_once (Err refusal) (Ok done) printed refused keeps written = absurd written
  served_at_once (Err refusal) (Err answer) printed refused keeps written =
      subst (λ (a : Status). IsServedBy {T = Unit {0}} is First log Keeps options sink (Err a)) (sym written.2) (served_unwritten refusal refused keeps written.0 written.1)

-- a run of what an input describes serves the input
module _ {D V T : Type 0} (problem : D → Problem V) (options : Options) (found : Result D Fault) (described : D) (run : Problem V) (spelled : found ≡ Ok described) (is : run ≡ problem described) (sink : Transfer) (result : Result T Status) where
  pub served_when_read : IsRunServed options run sink result
      → IsServedBy (answer_read problem options found) (FirstPassesRead problem options found) (log_read problem options found) (KeepsRead problem options found) options sink result
  served_when_read served =
      subst (λ (read : Result D Fault). IsServedBy (answer_read problem options read) (FirstPassesRead problem options read) (log_read problem options read) (KeepsRead problem options read) options sink result) (sym spelled)
      (subst (λ (p : Problem V). IsRunServed options p sink result) is served)

-- a run that was refused before anything has acted
pub run_unwritten : {V T : Type 0} (options : Options) (problem : Problem V) (sink : Transfer) (fault : Status) (result : Result T Status) → IsErrAnd result (λ answer. answer ≡ fault) → IsRunRefusal options problem fault → IsAtStart options problem fault
    → WritesNothing sink → sink.faults_after ≡ sink.faults_before → IsRunServed options problem sink result
run_unwritten options problem sink fault result told refused at_start nothing same =
    unwritten_from (answer_by options problem) (FirstPassesIn options problem) (log_within options problem) (KeepsText options problem) options sink fault result told refused
    (λ created limit is streams. inl (at_start created limit is, refl)) nothing same

-- an input that describes nothing
pub unwritten_for : {T : Type 0} (command : Command) (options : Options) (input : List ℕ) (sink : Transfer) (fault : Status) (result : Result T Status) → IsErrAnd result (λ answer. answer ≡ fault) → IsRefusalFor command options input fault → IsBeforeStart fault
    → WritesNothing sink → sink.faults_after ≡ sink.faults_before → IsServedFor command options input sink result
unwritten_for command options input sink fault result told refused before nothing same =
    unwritten_from (answer_for command options input) (FirstPassesFor command options input) (log_for command options input) (KeepsFor command options input) options sink fault result told refused
    (λ created limit is streams. absurd (before created limit is)) nothing same

-- the print of a run, or why there is none, was told at once: where its log might have gone out before, it is over the budget at the start alone
pub run_at_once : {V T : Type 0} (options : Options) (problem : Problem V) (sink : Transfer) (print : Result (List ℕ) Status) (result : Result T Status) → IfOk print (λ bytes. answer_by options problem ≡ whole_print bytes) → IfErr print (IsRunRefusal options problem)
    → IfErr print (λ answer. StreamsRounds options → IsAtStart options problem answer) → IsWritten print sink result → IsRunServed options problem sink result
run_at_once options problem sink print result printed refused at_start written =
    served_at_once (answer_by options problem) (FirstPassesIn options problem) (log_within options problem) (KeepsText options problem) options sink print result printed refused (by_print print at_start) written
  where
    by_print : (print : Result (List ℕ) Status) → IfErr print (λ answer. StreamsRounds options → IsAtStart options problem answer) → IfErr print (λ answer. (created limit : ℕ) → answer ≡ status.Budget created limit → StreamsRounds options → KeepsText options problem [])
    by_print (Ok bytes) at_start = tt
    by_print (Err answer) at_start = λ created limit told streams. inl (at_start streams created limit told, refl)

-- what is so of each refusal, whatever the mode, or in no mode
pub in_each_mode : {U : Type 0} (P : Type 0) (Q : Status → Type 0) (print : Result U Status) → IfErr print Q → IfErr print (λ answer. P → Q answer)
in_each_mode P Q (Ok bytes) is = tt
in_each_mode P Q (Err answer) is = λ _. is

pub in_no_mode : {U : Type 0} (P : Type 0) (Q : Status → Type 0) (print : Result U Status) → ¬ P → IfErr print (λ answer. P → Q answer)
in_no_mode P Q (Ok bytes) never = tt
in_no_mode P Q (Err answer) never = λ is. absurd (never is)

-- a run of a circuit serves its deck
pub served_of_circuit : {T : Type 0} (options : Options) (input : List ℕ) (circuit : Simulation) (sink : Transfer) (result : Result T Status) → options.command ≡ Sim → deck_for options.big input ≡ Ok circuit.deck → circuit ≡ simulation_of options circuit.deck
    → IsRunServed options (circuit_problem circuit) sink result → IsServed options input sink result
served_of_circuit options input circuit sink result is spelled made served =
    subst (λ command. IsServedFor command options input sink result) (sym is)
    (served_when_read (deck_problem options) options (deck_for options.big input) circuit.deck (circuit_problem circuit) spelled (ap circuit_problem made) sink result served)

-- a run of an elimination serves its pattern
pub served_of_matrix : {T : Type 0} (options : Options) (input : List ℕ) (pattern : Pattern) (sink : Transfer) (result : Result T Status) → options.command ≡ Rank → pattern_for options.big input ≡ Ok pattern
    → IsRunServed options (pattern_problem pattern) sink result → IsServed options input sink result
served_of_matrix options input pattern sink result is spelled served =
    subst (λ command. IsServedFor command options input sink result) (sym is)
    (served_when_read pattern_problem options (pattern_for options.big input) pattern (pattern_problem pattern) spelled refl sink result served)

-- and a run of a mesh its file
pub served_of_mesh : {T : Type 0} (options : Options) (input : List ℕ) (file : MeshFile) (sink : Transfer) (result : Result T Status) → options.command ≡ Mesh → mesh_for options.big input ≡ Ok file
    → IsRunServed options (mesh_problem file) sink result → IsServed options input sink result
served_of_mesh options input file sink result is spelled served =
    subst (λ command. IsServedFor command options input sink result) (sym is)
    (served_when_read mesh_problem options (mesh_for options.big input) file (mesh_problem file) spelled refl sink result served)

-- the same where it is of the command that the options have
pub input_unwritten : {T : Type 0} (command : Command) (options : Options) (input : List ℕ) (sink : Transfer) (fault : Status) (result : Result T Status) → options.command ≡ command → IsErrAnd result (λ answer. answer ≡ fault)
    → IsRefusalFor command options input fault → IsBeforeStart fault → WritesNothing sink → sink.faults_after ≡ sink.faults_before → IsServed options input sink result
input_unwritten command options input sink fault result is told refused before nothing same =
    subst (λ command. IsServedFor command options input sink result) (sym is) (unwritten_for command options input sink fault result told refused before nothing same)

-- what a reader refuses isn't over the budget
pub reads_before_start : (refusal : ReadFail) (answer : Status) → AnswersReader refusal answer → IsBeforeStart answer
reads_before_start (reader.Bad fault) answer told created limit over =
    elim (fault_kinds fault) as (λ _. ⊥) [
      | inl bad ↦ (let both : status.Budget created limit ≡ status.BadInput fault.line fault.kind = sym over ∙ told ∙ bad in cc)
      | inr large ↦ (let both : status.Budget created limit ≡ status.TooLarge fault.line fault.bound = sym over ∙ told ∙ large in cc)
    ]
reads_before_start reader.NoRoom answer told created limit over = let both : status.Budget created limit ≡ status.NoMemory = sym over ∙ told in cc
