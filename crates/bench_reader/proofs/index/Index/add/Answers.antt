use Rattle.std.proofs.Common.{◌≡◌, ℕ, List, inl, inr, refl, sym, subst, true, false}
use Rattle.std.specs.Prelude.{◌⊎◌, Result, Ok, Err, OnOk}
use Rattle.std.specs.Borrow.{Bor}
use Rattle.bench_reader.specs.declared.index.Index.{Index}
use Rattle.bench_reader.specs.declared.statement.StimDraft.{StimDraft}
use Rattle.bench_reader.specs.declared.statement.Statement.{Statement}
use Rattle.bench_reader.specs.declared.statement.Statement.TheVariants.{Output, Stimulus}
use Rattle.bench_reader.specs.LineForms.{InputLine, OutputLine, GateLine, FlipFlopLine, StimulusLine}
use Rattle.bench_reader.specs.Outlines.{Indexes}
use Rattle.bench_reader.specs.Statements.{fan_in_of, line_form}
use Rattle.bench_reader.proofs.Tables.{Indexes-name, Indexes-none, Indexes-delay}
use Rattle.bench_reader.proofs.index.Index.add.Goals as goal

on_ok : {A E P Q : Type 0} (result : Result A E) → OnOk result P → (P → Q) → OnOk result Q
on_ok (Ok value) done step = step done
on_ok (Err error) done step = tt

pub returns-in-Input-clause-ok : goal.returns-in-Input-clause-ok
returns-in-Input-clause-ok c =
    subst (λ (s : Statement). OnOk c.define.result (Indexes c.args.self.now c.args.number (line_form s) c.define.new.self)) (sym c.in-Input.is)
    (on_ok c.define.result c.define.ensures.ok (λ puts.
    Indexes-name c.args.self.now c.define.new.self c.args.number (InputLine c.in-Input.name.now) c.in-Input.name.now false
    (record { defines = refl; as_gate = refl; no_delay = λ other. refl; definitions = puts; delays = c.define.ensures.delays })))

pub returns-in-Gate-clause-ok : goal.returns-in-Gate-clause-ok
returns-in-Gate-clause-ok c =
    let gate = c.in-Gate.gate in
    subst (λ (s : Statement). OnOk c.define-in-Gate.result (Indexes c.args.self.now c.args.number (line_form s) c.define-in-Gate.new.self)) (sym c.in-Gate.is)
    (on_ok c.define-in-Gate.result c.define-in-Gate.ensures.ok (λ puts.
    Indexes-name c.args.self.now c.define-in-Gate.new.self c.args.number (GateLine gate.name.now gate.kind (fan_in_of gate.line.now)) gate.name.now true
    (record { defines = refl; as_gate = refl; no_delay = λ other. refl; definitions = puts; delays = c.define-in-Gate.ensures.delays })))

pub returns-in-FlipFlop-clause-ok : goal.returns-in-FlipFlop-clause-ok
returns-in-FlipFlop-clause-ok c =
    let flip_flop = c.in-FlipFlop.flip_flop in
    subst (λ (s : Statement). OnOk c.define-in-FlipFlop.result (Indexes c.args.self.now c.args.number (line_form s) c.define-in-FlipFlop.new.self)) (sym c.in-FlipFlop.is)
    (on_ok c.define-in-FlipFlop.result c.define-in-FlipFlop.ensures.ok (λ puts.
    Indexes-name c.args.self.now c.define-in-FlipFlop.new.self c.args.number (FlipFlopLine flip_flop.name.now flip_flop.source.now) flip_flop.name.now true
    (record { defines = refl; as_gate = refl; no_delay = λ other. refl; definitions = puts; delays = c.define-in-FlipFlop.ensures.delays })))

pub returns-in-Delay-clause-ok : goal.returns-in-Delay-clause-ok
returns-in-Delay-clause-ok c =
    subst (λ (s : Statement). OnOk c.slow.result (Indexes c.args.self.now c.args.number (line_form s) c.slow.new.self)) (sym c.in-Delay.is)
    (on_ok c.slow.result c.slow.ensures.ok (λ puts.
    Indexes-delay c.args.self.now c.slow.new.self c.args.number c.in-Delay.delay.name.now c.in-Delay.delay.delay c.slow.ensures.definitions puts))

-- a line that says of no name what the index has
unsaid : (statement : Statement) (index : Index) (number : ℕ) → ((name : Bor (List ℕ)) × statement ≡ Output name) ⊎ ((draft : StimDraft) × statement ≡ Stimulus draft)
    → Indexes index number (line_form statement) index
unsaid statement index number (inl (name, is)) =
    subst (λ (s : Statement). Indexes index number (line_form s) index) (sym is) (Indexes-none index number (OutputLine name.now) refl refl (λ other. refl))
unsaid statement index number (inr (draft, is)) =
    subst (λ (s : Statement). Indexes index number (line_form s) index) (sym is) (Indexes-none index number (StimulusLine draft.time draft.bits.now) refl refl (λ other. refl))

pub returns-in-Output-clause-ok : goal.returns-in-Output-clause-ok
returns-in-Output-clause-ok c = unsaid c.args.statement.now c.args.self.now c.args.number c.in-Output.is

pub returns-in-Output-2-clause-ok : goal.returns-in-Output-2-clause-ok
returns-in-Output-2-clause-ok c = unsaid c.args.statement.now c.args.self.now c.args.number c.in-Output.is
