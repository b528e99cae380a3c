-- A premise: not too many PDUs go out. It holds of the boxes of the rules, at each call.
use Rattle.std.specs.Prelude.{◌<◌, ◌-◌, ◌^◌, List, [], ◌∷◌, length}
use Rattle.iscsi_outbox_rules.specs.rules.Calls.{Opening, Call}
use Rattle.iscsi_outbox_rules.specs.rules.Boxes.{Link, Box}
use Rattle.iscsi_outbox_rules.specs.rules.Run.{opened, after_call}
use Rattle.iscsi_outbox_law.specs.private.Pairs.{EachOf}

-- fewer PDUs than that were handed out on each connection
abbrev pub AreFew : Box → Type 0
AreFew b = EachOf (λ (l : Link). length l.handed < 2 ^ 63) b.links

-- numbers that a word of 64 bits has
pub record AreShort (b : Box) : Type 0 where
  pub time : b.time < 2 ^ 64 - 1
  pub max : b.max < 2 ^ 63
  pub handed : AreFew b

abbrev pub ShortFrom : Opening → Box → List Call → Type 0
ShortFrom o b [] = Unit {0}
ShortFrom o b (c ∷ cs) = AreShort (after_call o b c) × ShortFrom o (after_call o b c) cs

abbrev pub IsShort : Opening → List Call → Type 0
IsShort o calls = ShortFrom o (opened o) calls
