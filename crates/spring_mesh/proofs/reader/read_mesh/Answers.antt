use Rattle.spring_mesh.proofs.Sound.{result-sound}
use Rattle.spring_mesh.proofs.reader.read_mesh.Goals as goal

pub returns-clause-mesh : goal.returns-clause-mesh
returns-clause-mesh c = result-sound c.args.input.now c.file_in.result c.file_in.ensures
