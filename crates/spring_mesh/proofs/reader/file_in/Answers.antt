use Rattle.std.proofs.Common.{◌+◌, length, sym, subst}
use Rattle.kdg_text.specs.Lines.{lines_of}
use Rattle.spring_mesh.proofs.Reading.{HasRead, HasRead-more}
use Rattle.spring_mesh.proofs.Sound.{few-plus}
use Rattle.spring_mesh.proofs.reader.file_in.Goals as goal

pub loop-line-preserved-in-Continue-1 : goal.loop-line-preserved-in-Continue-1
loop-line-preserved-in-Continue-1 c =
    let input = c.args.input.now in
    let number = c.loop-line.lines.number in
    let draft = c.loop-line.draft in
    let form = c.in-Some-statement_of.form in
    let behind = length (lines_of input) + 1 in
    record {
      few = few-plus draft c.add.new.self form c.in_ok-add.ensures.added c.in_ok-add.ensures.fits c.loop-line.invariant.few;
      read = HasRead-more input c.in-Some.line.bytes.now c.next_line.new.self.lines number c.next_line.new.self.number behind draft c.add.new.self form
          (sym c.in-Some-statement_of.ensures) c.in-Some.ensures.next c.in_ok-add.ensures.fits c.in_ok-add.ensures.added
          (subst (λ lines. HasRead input lines number behind draft) c.in-Some.ensures.lines c.loop-line.invariant.read);
    }
