use Rattle.std.proofs.Common.{◌≡◌, ◌∙◌, ◌<◌, ◌≤◌, ℕ, List, true, sym, subst, length, get_or}
use Rattle.std.proofs.lemmas.Bool.{false≢true}
use Rattle.iscsi_lane.specs.Times.{time_of}
use Rattle.iscsi_lane.proofs.OrderLemmas.{left_at, left_none}
use Rattle.iscsi_lane.proofs.due.leave_due.Goals as goal

pub returns-then-is_at-clause-due : goal.returns-then-is_at-clause-due
returns-then-is_at-clause-due c =
    let ts = c.args.stamps.now in
    let slot = c.args.slot in
    let k = c.place_of-k.result in
    let below = subst (λ (d : List ℕ). (j : ℕ) → j < k → time_of ts (get_or d j 0) < time_of ts slot) c.deref.ensures.value c.place_of-k.ensures.below in
    let above = subst (λ (d : List ℕ). (j : ℕ) → k ≤ j → j < length d → time_of ts slot ≤ time_of ts (get_or d j 0)) c.deref.ensures.value c.place_of-k.ensures.above in
    let yes = c.is_at.ensures.yes c.if-is_at.true in
    c.remove.ensures.items
    ∙ left_at ts c.args.due.now.items slot k c.requires.up below above
    (subst (λ (d : List ℕ). k < length d) c.deref-2.ensures.value yes.0) (subst (λ (d : List ℕ). get_or d k 0 ≡ slot) c.deref-2.ensures.value yes.1)

pub returns-else-is_at-clause-due : goal.returns-else-is_at-clause-due
returns-else-is_at-clause-due c =
    let ts = c.args.stamps.now in
    let slot = c.args.slot in
    let k = c.place_of-k.result in
    let below = subst (λ (d : List ℕ). (j : ℕ) → j < k → time_of ts (get_or d j 0) < time_of ts slot) c.deref.ensures.value c.place_of-k.ensures.below in
    let above = subst (λ (d : List ℕ). (j : ℕ) → k ≤ j → j < length d → time_of ts slot ≤ time_of ts (get_or d j 0)) c.deref.ensures.value c.place_of-k.ensures.above in
    let no = subst (λ (d : List ℕ). k < length d → get_or d k 0 ≡ slot → c.is_at.result ≡ true) c.deref-2.ensures.value c.is_at.ensures.no in
    left_none ts c.args.due.now.items slot k c.requires.up below above (λ l is. false≢true (sym c.if-is_at.false ∙ no l is))
