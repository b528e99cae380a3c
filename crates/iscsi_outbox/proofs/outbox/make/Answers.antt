use Rattle.std.proofs.Common.{◌≡◌, ◌≢◌, ◌&&◌, nat_lt, ℕ, List, length, sym, ap, subst, ◌∙◌, arith}
use Rattle.std.specs.List.{AllPairs}
use Rattle.iscsi_cids.specs.Cids.{Named}
use Rattle.iscsi_links.specs.Links.{Links, opened}
use Rattle.iscsi_outbox.proofs.OpenLemmas.{few_places, ok_has, valid}
use Rattle.iscsi_outbox.proofs.outbox.make.Goals.{then-options, else-options}
use Rattle.iscsi_outbox.proofs.outbox.make.Goals as goal

pub open-requires-clause-distinct : goal.open-requires-clause-distinct
open-requires-clause-distinct c = subst (λ (xs : List ℕ). AllPairs (λ (a b : ℕ). a ≢ b) xs) (sym c.deref.ensures.value) (valid c.args.options.now c.requires).apart

pub with_room-requires-2-clause-places : goal.with_room-requires-2-clause-places
with_room-requires-2-clause-places c = omega (arith, few_places c.args.options.now (valid c.args.options.now c.requires), c.len-conns.ensures)

pub assemble-requires-clause-cids : goal.assemble-requires-clause-cids
assemble-requires-clause-cids c =
    ok_has (λ (x : Named). x ≡ record { cids = c.deref.result.now }) c.open.result c.in_ok-cids.cids c.open.ensures (sym c.ok.ensures.value ∙ c.in_ok-cids.was)
    ∙ ap (λ (xs : List ℕ). record { cids = xs }) c.deref.ensures.value

pub assemble-requires-clause-links : goal.assemble-requires-clause-links
assemble-requires-clause-links c =
    let o = c.args.options.now in
    let few : c.len-conns.result ≡ length o.conns.items = (let a = c.len-conns.ensures in let b = c.deref.ensures.len in let d = ap length c.deref.ensures.value in omega (arith, a, b, d)) in
    let looks : c.if-options.looks ≡ (o.acknowledged && nat_lt 1 (length o.conns.items)) = elim c.if-options.branch [
      | then-options w ↦ w.looks-is ∙ ap (nat_lt 1) few ∙ sym (ap (λ v. v && nat_lt 1 (length o.conns.items)) w.if-options.true)
      | else-options w ↦ w.looks-is ∙ w.if-options.false ∙ sym (ap (λ v. v && nat_lt 1 (length o.conns.items)) w.if-options.false)
    ] in
    ok_has (λ (x : Links). x ≡ opened c.len-conns.result c.if-options.looks) c.open-2.result c.in_ok-links.links c.open-2.ensures (sym c.ok-2.ensures.value ∙ c.in_ok-links.was)
    ∙ ap (λ n. opened n c.if-options.looks) few ∙ ap (opened (length o.conns.items)) looks
