-- Two ends, and the pipes between them.
use Rattle.hs_message.specs.declared.info.VersionInfo.{VersionInfo}
use Rattle.pair_net.specs.Ends.{fresh_end}
use Rattle.pair_net.specs.declared.end.End.{End}
use Rattle.pair_net.specs.declared.end.End.TheVariants.{Left, Right}
use Rattle.pair_net.specs.declared.end_state.EndState.{EndState}

pub record PairState : Type 0 where
  pub left : EndState
  pub right : EndState

-- nothing was said yet
abbrev pub fresh_pair : VersionInfo → VersionInfo → PairState
fresh_pair left right = record { left = fresh_end left; right = fresh_end right }

abbrev pub other : End → End
other Left = Right
other Right = Left

abbrev pub end_of : End → PairState → EndState
end_of Left p = p.left
end_of Right p = p.right

-- the pair in which an end is this one, `near`, and the other end is that one, `far`
abbrev pub pair_of : End → EndState → EndState → PairState
pair_of Left near far = record { left = near; right = far }
pair_of Right near far = record { left = far; right = near }
