-- The last answer to a function of several tasks that was handed out.
use Rattle.std.specs.Prelude.{◌≡◌, ◌<◌, ℕ, ◌+◌, Bool, true, false, List, length, Option, Some, None}
use Rattle.std.specs.List.{list_any}
use Rattle.iscsi_arrivals.specs.Stamps.{stamp_at, IsUpToLast}
use Rattle.iscsi_outbox_rules.specs.rules.Boxes.{Link}
use Rattle.iscsi_outbox_rules.specs.rules.Words.{is_open, unarrived}
use Rattle.iscsi_outbox_rules.specs.rules.Handing.{fenced_handed}
use Rattle.iscsi_outbox_steps.specs.declared.sent.Sent.{Sent}
use Rattle.iscsi_outbox_law.specs.private.Pairs.{EachOf}
use Rattle.iscsi_outbox_law.specs.private.Commands.{link_in}

-- where arrivals are looked for, all before it on other connections are known to have arrived
pub record IsLastFence (looks : Bool) (links : List Link) (f : Sent) : Type 0 where
  pub place : ℕ
  pub stamp : f.stamp ≡ stamp_at (link_in links f.conn) place
  pub last : IsUpToLast fenced_handed (link_in links f.conn).handed (place + 1)
  pub conn : f.conn < length links
  pub others : looks ≡ true → (n : ℕ) → n < length links → (n ≡ f.conn → ⊥) → is_open (link_in links n) ≡ true → list_any fenced_handed (unarrived (link_in links n)) ≡ false

abbrev pub IsFence : Bool → List Link → Option Sent → Type 0
IsFence looks links None = EachOf (λ (l : Link). list_any fenced_handed l.handed ≡ false) links
IsFence looks links (Some f) = IsLastFence looks links f
