use Rattle.app_laws.proofs.serial_run.serial.Given as goal

abbrev pub ghosts-counted_run : goal.ghosts-counted_run
ghosts-counted_run g a = record { name = a.blank.name; parts = a.blank.parts }
