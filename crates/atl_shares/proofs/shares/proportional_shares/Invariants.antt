use Rattle.std.proofs.Common.{◌≡◌, ◌++◌, sum, take, drop}
use Rattle.atl_shares.specs.Share.{shares_after}
use Rattle.atl_shares.proofs.ShareLaws.{IsRemainder}
use Rattle.atl_shares.proofs.shares.proportional_shares.Given as goal

-- `left` is the remainder after the wants so far (`IsRemainder`), and the shares so far, followed by those of the wants
-- still to come, are the shares of all wants
abbrev pub invariant-loop-want : goal.invariant-loop-want
invariant-loop-want l = record {
  left : IsRemainder l.pot l.total (sum (take l.want-index l.wants)) l.left;
  rest : l.given.items ++ shares_after l.pot l.total (sum (take l.want-index l.wants)) (drop l.want-index l.wants)
      ≡ shares_after l.pot l.total 0 l.wants;
}
