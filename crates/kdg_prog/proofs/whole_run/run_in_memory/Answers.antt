use Rattle.std.proofs.Common.{Some, ap, refl, ◌≡◌}
use Rattle.std.specs.Prelude.{unwrap_or}
use Rattle.kdg_prog.specs.Inputs.{read_of}
use Rattle.outer_edge.specs.Transfers.{transfer_of}
use Rattle.kdg_prog.proofs.InMemory.{completes_in_memory, offers_read}
use Rattle.kdg_prog.proofs.whole_run.run_in_memory.Goals as goal

pub returns : goal.returns
returns g c = λ room.
    let source = transfer_of (λ reader. Some reader.left) (λ _. 0) c.args.source.now c.run_plain.new.source in
    let same_room : c.run_plain.new.sink.room ≡ c.args.sink.now.room = ap (λ room. unwrap_or room 0) c.run_plain.ensures.same_room in
    completes_in_memory c.args.options.now source (read_of c.args.options.now.big c.args.source.now.left) c.args.sink.now c.run_plain.new.sink c.run_plain.result c.run_plain.ensures.promises
    (offers_read c.args.options.now.big source c.args.source.now.left refl) same_room refl refl room
