-- What is said of a header. Assumes nothing.
use Rattle.std.specs.Prelude.{ℕ, List, ◌++◌, codes, decimal}
use Rattle.wire_types.specs.declared.header.Header as the_header

abbrev pub header_words : the_header.Header → List ℕ
header_words h =
    codes "header length " ++ (decimal h.length
    ++ (codes ", count " ++ (decimal h.count
    ++ (codes ", unit " ++ (decimal h.unit
    ++ (codes ", sequence " ++ decimal h.sequence))))))
