-- The order of effects within an item, as a log shows it. A log shows where an item begins: at each event, and at each
-- request that executes or is set to wait.
use Rattle.std.specs.Prelude.{◌≡◌, ◌≤◌, ℕ, ◌&&◌, Bool, true, false, nat_le, List, [], ◌∷◌, length, map, count_by, if◌then◌else◌}
use Rattle.std.specs.List.{list_any, flat_map}
use Rattle.iscsi_rules.specs.declared.effect.Effect.{Effect}
use Rattle.iscsi_rules.specs.declared.effect.Effect.TheVariants.{Deliver, Immediate, Wait, Void, Empty, Enter, Enable, Leave, Send, CloseConn, CloseSession, Ignore}
use Rattle.iscsi_rules.specs.declared.entry.Entry.{Entry}
use Rattle.iscsi_rules.specs.promises.Closes.{is_ignored}

-- a request executes, or is set to wait
abbrev pub is_request : Effect → Bool
is_request (Deliver r) = true
is_request (Immediate r) = true
is_request (Wait r) = true
is_request _ = false

abbrev pub is_reply : Effect → Bool
is_reply (Send conn stat_sn reply) = true
is_reply _ = false

-- the kinds of effects, in their order
abbrev pub rank : Effect → ℕ
rank (Deliver r) = 0
rank (Immediate r) = 0
rank (Wait r) = 0
rank (Void sn) = 1
rank (Leave ticket unit) = 2
rank (Empty sn) = 3
rank (Enter ticket unit attr) = 4
rank (Send conn stat_sn reply) = 5
rank (CloseConn conn) = 6
rank CloseSession = 7
rank (Enable ticket unit) = 8
rank (Ignore why) = 9

-- no number is less than the one before it
abbrev pub never_falls : List ℕ → Bool
never_falls [] = true
never_falls (n ∷ []) = true
never_falls (n ∷ m ∷ ns) = nat_le n m && never_falls (m ∷ ns)

abbrev pub onto_first : Effect → List (List Effect) → List (List Effect)
onto_first e [] = (e ∷ []) ∷ []
onto_first e (es ∷ rest) = (e ∷ es) ∷ rest

-- the effects of an event in parts, of which each but the first begins with a request
abbrev pub in_parts : List Effect → List (List Effect)
in_parts [] = [] ∷ []
in_parts (e ∷ es) = let rest = onto_first e (in_parts es) in if is_request e then [] ∷ rest else rest

-- the effects of an item stand in order
pub record IsInOrder (es : List Effect) : Type 0 where
  -- Deliver, Immediate or Wait; Void; Leave; Empty; Enter; Send; CloseConn; CloseSession; Enable
  pub kinds : never_falls (map rank es) ≡ true
  pub one_request : count_by is_request es ≤ 1
  pub one_reply : count_by is_reply es ≤ 1
  -- an Ignore stands alone
  pub alone : list_any is_ignored es ≡ true → length es ≡ 1

-- so do those of each of these parts
abbrev pub AreInOrder : List (List Effect) → Type 0
AreInOrder [] = Unit {0}
AreInOrder (es ∷ rest) = IsInOrder es × AreInOrder rest

-- so it is in each entry of the log
abbrev pub KeepsOrder : List Entry → Type 0
KeepsOrder log = AreInOrder (flat_map (λ (e : Entry). in_parts e.effects) log)
