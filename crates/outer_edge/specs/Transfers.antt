-- What a call made of a source or a sink.
use Rattle.std.specs.Prelude.{◌≡◌, ℕ, ◌<◌, ◌≤◌, ◌⊎◌, List, length, Option, Result, IfOk, IfSome, IsErrOf}
use Rattle.std.specs.Io.KnownBytes.{Consumes, IsAtEnd}
use Rattle.outer_edge.specs.Faults.{HasRisen}
use Rattle.outer_edge.specs.declared.whole_input.ReadAllFault.{ReadAllFault}
use Rattle.outer_edge.specs.declared.whole_input.ReadAllFault.TheVariants as faults

-- the bytes that a source has left or a sink took, where it tells them, and how many of its calls had failed, before a call and after it
pub record Transfer : Type 0 where
  pub before : Option (List ℕ)
  pub after : Option (List ℕ)
  pub faults_before : ℕ
  pub faults_after : ℕ

-- what a call made of a device, by its states before and after, where these tell its bytes and its faults
abbrev pub transfer_of : {D : Type 0} → (D → Option (List ℕ)) → (D → ℕ) → D → D → Transfer
transfer_of known faults old new = record { before = known old; after = known new; faults_before = faults old; faults_after = faults new }

abbrev pub HasFailed : Transfer → Type 0
HasFailed transfer = HasRisen transfer.faults_before transfer.faults_after

-- these bytes came, and they are more than the limit
abbrev pub BringsMore : ℕ → Transfer → Type 0
BringsMore limit source = (came : List ℕ) × (limit < length came) × Consumes source.before source.after came

-- bytes came, and they are no more than the limit
abbrev pub BringsAtMost : ℕ → Transfer → Type 0
BringsAtMost limit source = (came : List ℕ) × (length came ≤ limit) × Consumes source.before source.after came

-- the text is all bytes that a source had left, it was read to its end, and they are no more than the limit
pub record IsReadWhole (limit : ℕ) (source : Transfer) (text : List ℕ) : Type 0 where
  pub bytes : IfSome source.before (λ bytes. text ≡ bytes)
  pub end : IsAtEnd source.after
  pub within : length text ≤ limit

-- what the reading of a whole input answers, by what it made of the source
pub record ReadsAll (limit : ℕ) (source : Transfer) (result : Result (List ℕ) ReadAllFault) : Type 0 where
  pub ok : IfOk result (λ text. IsReadWhole limit source text)
  pub too_large : IsErrOf result faults.TooLarge → BringsMore limit source
  pub read_fault : IsErrOf result faults.ReadFault → HasFailed source
  pub before : IsErrOf result faults.ReadFault → BringsAtMost limit source
  pub room : IsErrOf result faults.NoRoom → BringsAtMost limit source
  pub no_fault : IsErrOf result faults.ReadFault ⊎ (source.faults_after ≡ source.faults_before)
  pub never_falls : source.faults_before ≤ source.faults_after
