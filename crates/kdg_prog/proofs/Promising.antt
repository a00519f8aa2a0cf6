-- What a run promises, by the way that it ended.
use Rattle.std.proofs.Common.{◌≡◌, ℕ, zero, suc, ◌<◌, ◌≤◌, List, [], cond, false, length, None, Some, Option, Ok, Err, nat_eq, refl, sym, ◌∙◌, ap, subst, arith, inl, inr, ◌⊎◌, length-append}
use Rattle.std.specs.Prelude.{IfSome, IfOk, IfErr, Result}
use Rattle.std.specs.Io.KnownBytes.{Appends, Consumes}
use Rattle.std.proofs.lemmas.Bool.{cases_Bool, cond-true, cond-false, ne_eqb}
use Rattle.kdg_text.specs.declared.fault.Fault.{Fault}
use Rattle.outer_edge.specs.Writing.{AppendsFront}
use Rattle.outer_edge.specs.Transfers.{Transfer, HasFailed, ReadsAll}
use Rattle.outer_edge.specs.declared.whole_input.ReadAllFault.{ReadAllFault}
use Rattle.outer_edge.specs.declared.whole_input.ReadAllFault.TheVariants as faults
use Rattle.kdg_prog.specs.declared.status.Status.{Status}
use Rattle.kdg_prog.specs.declared.status.Status.TheVariants as status
use Rattle.kdg_prog.specs.declared.words.Options.{Options}
use Rattle.bench_reader.specs.Grammar.{deck_of}
use Rattle.logic_sim.specs.Chain as chains
use Rattle.mtx_reader.specs.Grammar.{pattern_of}
use Rattle.gf2_eliminate.specs.Blocks as blocks
use Rattle.spring_mesh.specs.Grammar.{mesh_of}
use Rattle.spring_mesh.specs.Pairs as pairs
use Rattle.app_laws.specs.Execution.{Execution}
use Rattle.kdg_prog.specs.declared.words.Command.{Command}
use Rattle.kdg_prog.specs.declared.words.Command.TheVariants.{Sim, Rank, Mesh, Levels}
use Rattle.kdg_prog.specs.Answer.{input_fault, whole_print, answer_for, answer_of, deck_problem, graph_problem, log_of, pattern_problem, mesh_problem, FirstPassesBudget, KeepsOf}
use Rattle.kdg_prog.specs.Inputs.{Offers, TakesAll, TakesInput}
use Rattle.kdg_prog.specs.Problem.{Problem, answer_by, answer_by_end, answer_read, end_of, rounds_told}
use Rattle.kdg_prog.specs.Bounds.{input_bound}
use Rattle.kdg_prog.specs.Headline.{IsAnswered, Completes, Promises, TellsOfReading}
use Rattle.kdg_prog.specs.Refusals.{IsRefusal, AnswersRead}
use Rattle.kdg_prog.specs.Serving.{IsServed, LeavesLog, WritesNothing}
use Rattle.kdg_prog.specs.Status.{status_of_fault}

-- the bytes of a source that tells them are the text that was read of it
pub known_input : (limit : ℕ) (before : Option (List ℕ)) (text input : List ℕ) → IfSome before (λ bytes. text ≡ bytes) → before ≡ Some input → text ≡ input
known_input limit before text input bytes told = subst (λ b. IfSome b (λ bytes. text ≡ bytes)) told bytes

-- the input that was taken is the one that was there
pub same_input : (big : ℕ) (source : Transfer) (text input : List ℕ) → TakesInput big source text → Offers big source input → text ≡ input
same_input zero source text input whole told = known_input input_bound source.before text input whole.bytes told
same_input (suc big) source text input none told = none.1 ∙ sym told

input_within : (big : ℕ) (source : Transfer) (text : List ℕ) → TakesInput big source text → length text ≤ input_bound
input_within zero source text whole = whole.within
input_within (suc big) source text none = omega (arith, ap length none.1)

-- a run that answers what its input is answered
completes : (options : Options) (source sink : Transfer) (text : List ℕ) (answer : Status) → TakesInput options.big source text → IsAnswered options sink (answer_of options text) answer → Completes options source sink answer
completes options source sink text answer taken answered no_fault room input told =
    let same : text ≡ input = same_input options.big source text input taken told in (
      (λ large. absurd (omega (arith, input_within options.big source text taken, ap length same, large))),
      (λ small. subst (λ t. IsAnswered options sink (answer_of options t) answer) same answered),
    )

pub fault_kinds : (fault : Fault) → (status_of_fault fault ≡ status.BadInput fault.line fault.kind) ⊎ (status_of_fault fault ≡ status.TooLarge fault.line fault.bound)
fault_kinds fault = elim (cases_Bool (nat_eq fault.bound 0)) as (λ _. (status_of_fault fault ≡ status.BadInput fault.line fault.kind) ⊎ (status_of_fault fault ≡ status.TooLarge fault.line fault.bound)) [
  | inl none ↦ inl (cond-true _ _ _ none)
  | inr some ↦ inr (cond-false _ _ _ some)
]

no_failed_read : (source : Transfer) (text : List ℕ) → ReadsAll input_bound source (Ok text) → source.faults_after ≡ source.faults_before
no_failed_read source text reads = elim reads.no_fault [
  | inl e ↦ absurd cc
  | inr same ↦ same
]

-- an input that was taken, without a failed read
pub taken_from_all : (big : ℕ) (source : Transfer) (text : List ℕ) → TakesAll big source (Ok text) → TakesInput big source text × (source.faults_after ≡ source.faults_before)
taken_from_all zero source text reads = (reads.ok, no_failed_read source text reads)
taken_from_all (suc big) source text takes = let none : Ok text ≡ Ok [] = takes.1 in ((takes.0, cc), takes.0.faults)

-- what is refused was read
read_from_all : (big : ℕ) (source : Transfer) (fault : ReadAllFault) → TakesAll big source (Err fault) → ReadsAll input_bound source (Err fault) × (big ≡ 0)
read_from_all zero source fault reads = (reads, refl)
read_from_all (suc big) source fault takes = absurd (let never : Err fault ≡ Ok [] = takes.1 in cc)

-- where the input is made from a number, the answer is no fault of it
no_fault_by : {V : Type 0} (options : Options) (problem : Problem V) (fault : Fault) → answer_by options problem ≡ input_fault fault → ⊥
no_fault_by {V} options problem fault is = by_end (end_of options problem) is
  where
    by_end : (end : Option (Execution V)) → answer_by_end problem options (rounds_told options problem) end ≡ input_fault fault → ⊥
    by_end None is = cc
    by_end (Some end) is = cc

no_fault_when_made : {D V : Type 0} (problem : D → Problem V) (options : Options) (read : Result D Fault) (made : D) (fault : Fault) → 0 < options.big → answer_read problem options (cond (nat_eq options.big 0) read (Ok made)) ≡ input_fault fault → ⊥
no_fault_when_made problem options read made fault some is =
    let not_read : nat_eq options.big 0 ≡ false = ne_eqb options.big 0 (λ e. omega (arith, some, e)) in
    no_fault_by options (problem made) fault (sym (ap (answer_read problem options) (cond-false (nat_eq options.big 0) read (Ok made) not_read)) ∙ is)

no_input_fault : (options : Options) (text : List ℕ) (fault : Fault) → 0 < options.big → answer_of options text ≡ input_fault fault → ⊥
no_input_fault options text fault some is = by_command options.command is
  where
    by_command : (command : Command) → answer_for command options text ≡ input_fault fault → ⊥
    by_command Sim is = no_fault_when_made (deck_problem options) options (deck_of text) (chains.generated_input options.big) fault some is
    by_command Rank is = no_fault_when_made pattern_problem options (pattern_of text) (blocks.generated_input options.big) fault some is
    by_command Levels is = no_fault_when_made (graph_problem options) options (pattern_of text) (blocks.generated_input options.big) fault some is
    by_command Mesh is = no_fault_when_made mesh_problem options (mesh_of text) (pairs.generated_input options.big) fault some is

-- the other answers tell of no reading
tells_else : (answer is : Status) → answer ≡ is → ¬ TellsOfReading is → ¬ TellsOfReading answer
tells_else answer is same none tells = none (subst TellsOfReading same tells)

module _ (options : Options) (source sink : Transfer) (text : List ℕ) (takes : TakesAll options.big source (Ok text)) where
  taken : TakesInput options.big source text
  taken = (taken_from_all options.big source text takes).0

  read : source.faults_after ≡ source.faults_before
  read = (taken_from_all options.big source text takes).1

  -- the print is written whole
  when_printed : (bytes : List ℕ) → answer_of options text ≡ whole_print bytes → Appends sink.before sink.after bytes → sink.faults_after ≡ sink.faults_before → Promises options source sink status.Ok
  when_printed bytes is appends same_sink = record {
    print = λ e. (bytes, (text, taken, is), appends);
    budget = λ created limit e. absurd cc;
    causes = record {
      good_words = λ word e. cc;
      bad_input = λ line kind e. absurd cc;
      too_large = λ line bound e. absurd cc;
      read_fault = λ e. absurd cc;
      write_fault = λ e. absurd cc;
      made = λ some tells. tells;
      reads_told = λ e. read;
      writes_told = λ e never. same_sink;
    };
    written = λ e. absurd cc;
    memory = λ e. absurd cc;
    complete = completes options source sink text status.Ok taken (subst (λ a. IsAnswered options sink a status.Ok) (sym is) (inl refl));
  }

  -- a write of the print failed
  when_cut : (bytes : List ℕ) → answer_of options text ≡ whole_print bytes → AppendsFront sink.before sink.after bytes → HasFailed sink → Promises options source sink status.WriteFault
  when_cut bytes is front failed = record {
    print = λ e. absurd cc;
    budget = λ created limit e. absurd cc;
    causes = record {
      good_words = λ word e. cc;
      bad_input = λ line kind e. absurd cc;
      too_large = λ line bound e. absurd cc;
      read_fault = λ e. absurd cc;
      write_fault = λ e. failed;
      made = λ some tells. tells;
      reads_told = λ e. read;
      writes_told = λ e never. absurd (e refl);
    };
    written = λ e. (bytes, (text, taken, is), front);
    memory = λ e. absurd cc;
    complete = completes options source sink text status.WriteFault taken (subst (λ a. IsAnswered options sink a status.WriteFault) (sym is) (inr (refl, failed)));
  }

  -- no print for the input
  when_refused : (answer : Status) → IsRefusal options text answer → LeavesLog (log_of options text) (KeepsOf options text) options sink answer → Promises options source sink answer
  when_refused answer (inl (fault, is, told)) left = elim (fault_kinds fault) as (λ _. Promises options source sink answer) [
    | inl kind ↦
        let bad : answer ≡ status.BadInput fault.line fault.kind = told ∙ kind in record {
          print = λ e. absurd cc;
          budget = λ created limit e. absurd cc;
          causes = record {
            good_words = λ word e. cc;
            bad_input = λ line kind e. (fault, (text, taken, is), told);
            too_large = λ line bound e. absurd cc;
            read_fault = λ e. absurd cc;
            write_fault = λ e. absurd cc;
            made = λ some tells. no_input_fault options text fault some is;
            reads_told = λ e. read;
            writes_told = λ e never. left.told never;
          };
          written = λ e. absurd cc;
          memory = λ e. inr (text, taken, left.front);
          complete = completes options source sink text answer taken (subst (λ a. IsAnswered options sink a answer) (sym is) told);
        }
    | inr kind ↦
        let large : answer ≡ status.TooLarge fault.line fault.bound = told ∙ kind in record {
          print = λ e. absurd cc;
          budget = λ created limit e. absurd cc;
          causes = record {
            good_words = λ word e. cc;
            bad_input = λ line kind e. absurd cc;
            too_large = λ line bound e. inr (fault, (text, taken, is), told);
            read_fault = λ e. absurd cc;
            write_fault = λ e. absurd cc;
            made = λ some tells. no_input_fault options text fault some is;
            reads_told = λ e. read;
            writes_told = λ e never. left.told never;
          };
          written = λ e. absurd cc;
          memory = λ e. inr (text, taken, left.front);
          complete = completes options source sink text answer taken (subst (λ a. IsAnswered options sink a answer) (sym is) told);
        }
  ]
  when_refused answer (inr (inl exceeded)) left =
      let told = exceeded.told in record {
        print = λ e. absurd cc;
        budget = λ created limit e.
            let same : status.Budget exceeded.created options.budget ≡ status.Budget created limit = sym told ∙ e in
            let number : exceeded.created ≡ created = cc in
            let bound : limit ≡ options.budget = cc in record {
              limit_is = bound;
              above = omega (arith, exceeded.above, number, bound);
              input = text;
              read = taken;
              over = exceeded.over;
              first = λ serial. subst (λ n. FirstPassesBudget options text n) number (exceeded.first serial);
              front = left.front;
              kept = λ streams fine. left.kept created limit e streams fine;
            };
        causes = record {
          good_words = λ word e. cc;
          bad_input = λ line kind e. absurd cc;
          too_large = λ line bound e. absurd cc;
          read_fault = λ e. absurd cc;
          write_fault = λ e. absurd cc;
          made = λ some tells. tells_else answer (status.Budget exceeded.created options.budget) told (λ t. t) tells;
          reads_told = λ e. read;
          writes_told = λ e never. left.told never;
        };
        written = λ e. absurd cc;
        memory = λ e. inr (text, taken, left.front);
        complete = completes options source sink text answer taken (subst (λ a. IsAnswered options sink a answer) (sym exceeded.over) (exceeded.created, told));
      }
  when_refused answer (inr (inr told)) left = record {
    print = λ e. absurd cc;
    budget = λ created limit e. absurd cc;
    causes = record {
      good_words = λ word e. cc;
      bad_input = λ line kind e. absurd cc;
      too_large = λ line bound e. absurd cc;
      read_fault = λ e. absurd cc;
      write_fault = λ e. absurd cc;
      made = λ some tells. tells_else answer status.NoMemory told (λ t. t) tells;
      reads_told = λ e. read;
      writes_told = λ e never. left.told never;
    };
    written = λ e. absurd cc;
    memory = λ e. inr (text, taken, left.front);
    complete = λ no_fault room. absurd (room told);
  }

  -- a run came to its end, or there was none
  pub when_served : {T : Type 0} (end : Result T Status) (answer : Status) → IfOk end (λ _. answer ≡ status.Ok) → IfErr end (λ refusal. answer ≡ refusal) → IsServed options text sink end → Promises options source sink answer
  when_served (Ok done) answer ok refused served = subst (Promises options source sink) (sym ok) (when_printed served.0 served.1 served.2 served.3)
  when_served (Err refusal) answer ok refused (inl cut) = subst (Promises options source sink) (sym (refused ∙ cut.1)) (when_cut cut.0.0 cut.0.1 cut.0.2 cut.0.3)
  when_served (Err refusal) answer ok refused (inr left) = subst (Promises options source sink) (sym refused) (when_refused refusal left.0 left.1)

-- bytes that came are among those that a source had
came_within : (before after : Option (List ℕ)) (came input : List ℕ) → before ≡ Some input → Consumes before after came → length came ≤ length input
came_within before after came input told consumed =
    let by_after : (after : Option (List ℕ)) → Consumes (Some input) after came → length came ≤ length input = elim [
      | None ↦ λ consumed. absurd consumed
      | Some rest ↦ λ consumed. omega (arith, ap length consumed, length-append came rest)
    ] in
    by_after after (subst (λ b. Consumes b after came) told consumed)

-- the reads that end a run without a text
when_not_read : (options : Options) (source sink : Transfer) (fault : ReadAllFault) (answer : Status) → options.big ≡ 0 → ReadsAll input_bound source (Err fault) → AnswersRead fault answer → WritesNothing sink → sink.faults_after ≡ sink.faults_before
    → Promises options source sink answer
when_not_read options source sink faults.ReadFault answer reading reads told nothing same_sink = record {
  print = λ e. absurd cc;
  budget = λ created limit e. absurd cc;
  causes = record {
    good_words = λ word e. cc;
    bad_input = λ line kind e. absurd cc;
    too_large = λ line bound e. absurd cc;
    read_fault = λ e. (reads.read_fault refl, reads.before refl);
    write_fault = λ e. absurd cc;
    made = λ some tells. absurd (omega (arith, some, reading));
    reads_told = λ e. absurd (e told);
    writes_told = λ e never. same_sink;
  };
  written = λ e. absurd cc;
  memory = λ e. inl nothing;
  complete = λ no_fault room. absurd (no_fault (reads.read_fault refl));
}
when_not_read options source sink faults.TooLarge answer reading reads told nothing same_sink =
    let read : source.faults_after ≡ source.faults_before = elim reads.no_fault [
      | inl e ↦ absurd cc
      | inr same ↦ same
    ] in record {
      print = λ e. absurd cc;
      budget = λ created limit e. absurd cc;
      causes = record {
        good_words = λ word e. cc;
        bad_input = λ line kind e. absurd cc;
        too_large = λ line bound e. inl (reads.too_large refl, told);
        read_fault = λ e. absurd cc;
        write_fault = λ e. absurd cc;
        made = λ some tells. absurd (omega (arith, some, reading));
        reads_told = λ e. read;
        writes_told = λ e never. same_sink;
      };
      written = λ e. absurd cc;
      memory = λ e. inl nothing;
      complete = λ no_fault room input known.
          let more = reads.too_large refl in (
            (λ large. told),
            (λ small. absurd (omega (arith, small, more.1, came_within source.before source.after more.0 input (subst (λ big. Offers big source input) reading known) more.2))),
          );
    }
when_not_read options source sink faults.NoRoom answer reading reads told nothing same_sink =
    let read : source.faults_after ≡ source.faults_before = elim reads.no_fault [
      | inl e ↦ absurd cc
      | inr same ↦ same
    ] in record {
      print = λ e. absurd cc;
      budget = λ created limit e. absurd cc;
      causes = record {
        good_words = λ word e. cc;
        bad_input = λ line kind e. absurd cc;
        too_large = λ line bound e. absurd cc;
        read_fault = λ e. absurd cc;
        write_fault = λ e. absurd cc;
        made = λ some tells. absurd (omega (arith, some, reading));
        reads_told = λ e. read;
        writes_told = λ e never. same_sink;
      };
      written = λ e. absurd cc;
      memory = λ e. inl nothing;
      complete = λ no_fault room. absurd (room told);
    }

pub when_unread : (options : Options) (source sink : Transfer) (fault : ReadAllFault) (answer : Status) → TakesAll options.big source (Err fault) → AnswersRead fault answer → WritesNothing sink → sink.faults_after ≡ sink.faults_before
    → Promises options source sink answer
when_unread options source sink fault answer takes told nothing same_sink =
    let reads = read_from_all options.big source fault takes in
    when_not_read options source sink fault answer reads.1 reads.0 told nothing same_sink
