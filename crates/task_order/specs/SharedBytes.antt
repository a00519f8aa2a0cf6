-- Lists of bytes that share their beginnings.
use Rattle.std.specs.Prelude.{◌≡◌, ℕ, ◌*◌, ◌%◌, ◌≤◌, List, [], ◌++◌, length, slice_index, Option, Some, None}
use Rattle.std.specs.declared.sync.Arc.{Arc}
use Rattle.std.specs.declared.alloc.Global.{Global}
use Rattle.task_order.specs.PathCode.{first_word}
use Rattle.task_order.specs.declared.path.node.TheConstants.{IN_PLACE, FULL_NODE}

-- the bytes of the nodes, each seen as its own and those before it
abbrev pub chain : Option (Arc (List ℕ) Global) → List ℕ
chain None = []
chain (Some node) = node.value

-- a node with this level has as many full nodes before it, and itself at least what a list keeps in place; it knows the
-- first bytes of all
pub record IsNode (level beginning : ℕ) (bytes before : List ℕ) : Type 0 where
  pub full_before : length before ≡ FULL_NODE * level
  pub not_few : IN_PLACE ≤ length bytes
  pub not_many : length bytes ≤ FULL_NODE
  pub begins : beginning ≡ first_word (before ++ bytes)

-- from the place on there are zeros
abbrev pub IsPadded : List ℕ → ℕ → Type 0
IsPadded bytes len = (k : ℕ) → len ≤ k → slice_index bytes k ≡ 0

-- the nodes have as many bytes as a list keeps in place, or a multiple of that, and where there are nodes, some bytes are in place
pub record IsShared (nodes rest : List ℕ) (rest_len : ℕ) : Type 0 where
  pub in_place : rest_len ≤ IN_PLACE
  pub whole : length nodes % IN_PLACE ≡ 0
  pub goes_on : rest_len ≡ 0 → nodes ≡ []
  pub padded : IsPadded rest rest_len
