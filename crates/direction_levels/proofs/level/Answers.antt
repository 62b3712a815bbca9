-- `direction_levels::level` meets its contract.
use Rattle.direction_levels.proofs.Less128.{level-fits, level-back}
use Rattle.direction_levels.proofs.level.Goals as goal

pub overflow_sub-result : goal.overflow_sub-result
overflow_sub-result c = level-fits _ c.requires.1

pub returns : goal.returns
returns c = level-back _ c.requires.1
