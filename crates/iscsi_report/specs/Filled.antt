-- A report that is written as the effects of an event come: the numbers of its replies are filled in at its end.
use Rattle.std.specs.Prelude.{◌≡◌, ℕ, ◌+◌, ◌*◌, Bool, true, List, [], ◌∷◌, ◌++◌, length, take, drop}
use Rattle.std.specs.List.{flat_map}
use Rattle.iscsi_wire.specs.declared.reply.Reply.{Reply}
use Rattle.iscsi_wire.specs.Replies.{tail_of}
use Rattle.iscsi_rules.specs.declared.effect.Effect.{Effect}
use Rattle.iscsi_rules.specs.declared.effect.Numbers.{Numbers}
use Rattle.iscsi_report.specs.Lines.{eight_digits, effect_line}

-- what is written: its bytes, the places of numbers that are to come, and whether memory has sufficed
pub record Written : Type 0 where
  pub bytes : List ℕ
  pub places : List ℕ
  pub is_whole : Bool

-- the digits of ExpCmdSN and MaxCmdSN
abbrev pub numbers_digits : Numbers → List ℕ
numbers_digits n = eight_digits n.exp ++ eight_digits n.max

-- bytes, in which these stand from a place on
abbrev pub overwritten : List ℕ → ℕ → List ℕ → List ℕ
overwritten bytes place digits = take place bytes ++ (digits ++ drop (place + length digits) bytes)

-- the numbers are filled in at these places
abbrev pub filled : Numbers → List ℕ → List ℕ → List ℕ
filled n [] bytes = bytes
filled n (p ∷ ps) bytes = filled n ps (overwritten bytes p (numbers_digits n))

-- behind a text it has the lines of these effects, whatever the numbers come to
abbrev pub HasLines : Written → List ℕ → List Effect → Type 0
HasLines w text es = w.is_whole ≡ true → (n : Numbers) → filled n w.places w.bytes ≡ text ++ flat_map (λ effect. effect_line effect n) es

-- between events: no numbers are to come, and memory has sufficed
abbrev pub IsAtRest : Written → Type 0
IsAtRest w = (w.places ≡ []) × (w.is_whole ≡ true)

-- a text, between events
abbrev pub at_rest : List ℕ → Written
at_rest text = record { bytes = text; places = []; is_whole = true }

-- how far before the end of a reply's line its numbers begin
abbrev pub numbers_from_end : Reply → ℕ
numbers_from_end reply = 41 + 2 * length (tail_of reply)
