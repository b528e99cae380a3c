-- Where a PDU that is handed out comes from.
use Rattle.std.proofs.Common.{◌≡◌, ◌⊎◌, inl, inr, cond, Bool, true, false, List, [], ◌∷◌, Some, None, refl, ap, sym, ◌∙◌}
use Rattle.iscsi_outbox_rules.specs.rules.Calls.{Opening}
use Rattle.iscsi_outbox_rules.specs.rules.Boxes.{Notices, Outgoing, Link, Box}
use Rattle.iscsi_outbox_rules.specs.rules.Words.{is_open}
use Rattle.iscsi_outbox_rules.specs.rules.Handing.{wants_ping, wants_notice, passes_fence, nop_in, ping, first_waiting, chosen}

-- it is the first that waits, or a NOP-In of the outbox's own
pub record FromQueue (o : Opening) (b : Box) (l : Link) (out : Outgoing) : Type 0 where
  pub rest : List Outgoing
  pub queue_is : l.queue ≡ out ∷ rest
  pub passes : passes_fence o b l out ≡ true

pub record IsPing (o : Opening) (b : Box) (l : Link) (out : Outgoing) : Type 0 where
  pub wanted : wants_ping o b l ≡ true
  pub is : out ≡ ping b l

pub record IsNotice (o : Opening) (b : Box) (l : Link) (out : Outgoing) : Type 0 where
  pub wanted : wants_notice o b l ≡ true
  pub is : out ≡ nop_in b Notices
  pub queue_is : l.queue ≡ []

pub record Chosen (o : Opening) (b : Box) (l : Link) (out : Outgoing) : Type 0 where
  pub open_is : is_open l ≡ true
  pub source : FromQueue o b l out ⊎ (IsPing o b l out ⊎ IsNotice o b l out)

some_of : {A : Type 0} (v : Bool) (x y : A) → cond v (Some x) None ≡ Some y → (v ≡ true) × (x ≡ y)
some_of true x y h = (refl, cc)
some_of false x y h = absurd cc

waiting : (o : Opening) (b : Box) (l : Link) (out : Outgoing) (queue : List Outgoing) → l.queue ≡ queue → first_waiting o b l queue ≡ Some out → FromQueue o b l out ⊎ (IsPing o b l out ⊎ IsNotice o b l out)
waiting o b l out [] is h = let k = some_of (wants_notice o b l) (nop_in b Notices) out h in inr (inr (record { wanted = k.0; is = sym k.1; queue_is = is }))
waiting o b l out (first ∷ rest) is h =
    let k = some_of (passes_fence o b l first) first out h in
    inl (record { rest = rest; queue_is = is ∙ ap (λ x. x ∷ rest) k.1; passes = ap (passes_fence o b l) (sym k.1) ∙ k.0 })

pub chosen_from : (o : Opening) (b : Box) (l : Link) (out : Outgoing) → chosen o b l ≡ Some out → Chosen o b l out
chosen_from o b l out h =
    elim (is_open l) as (λ v. is_open l ≡ v → cond v (cond (wants_ping o b l) (Some (ping b l)) (first_waiting o b l l.queue)) None ≡ Some out → Chosen o b l out) [
      | true ↦ λ opens k. record { open_is = opens; source = by_ping (wants_ping o b l) refl k }
      | false ↦ λ opens k. absurd cc
    ] refl h
  where
    by_ping : (v : Bool) → wants_ping o b l ≡ v → cond v (Some (ping b l)) (first_waiting o b l l.queue) ≡ Some out → FromQueue o b l out ⊎ (IsPing o b l out ⊎ IsNotice o b l out)
    by_ping true is k = let same : ping b l ≡ out = cc in inr (inl (record { wanted = is; is = sym same }))
    by_ping false is k = waiting o b l out l.queue refl k
