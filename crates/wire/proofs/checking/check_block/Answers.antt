use Rattle.wire.proofs.Walks.{left_in_block}
use Rattle.wire.proofs.checking.check_block.Goals as goal

pub overflow_sub-block : goal.overflow_sub-block
overflow_sub-block c =
    left_in_block _ _ _ _ _ _ _ c.new-reader.ensures c.in_ok-header.ensures.value c.in_ok-header.ensures.after
    c.in_ok-check_header.ensures _ c.in_ok-left.ensures
