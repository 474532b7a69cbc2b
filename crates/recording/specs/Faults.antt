-- Why a line says nothing, in words. Assumes nothing.
use Rattle.std.specs.Prelude.{ℕ, List, codes}
use Rattle.recording.specs.declared.line.BadLine.{BadLine}
use Rattle.recording.specs.declared.line.BadLine.TheVariants.{Memory, NoHex, NoUnit}

abbrev pub fault_words : BadLine → List ℕ
fault_words Memory = codes "no memory"
fault_words NoHex = codes "no hex"
fault_words NoUnit = codes "no unit"
