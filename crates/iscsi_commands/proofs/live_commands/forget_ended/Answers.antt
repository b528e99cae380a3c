use Rattle.std.proofs.Common.{◌<◌, ◌≤◌, ℕ, List, length, All, ap, sym, subst, ◌∙◌, arith}
use Rattle.std.proofs.lemmas.Bool.Decides.{nat_tests}
use Rattle.iscsi_commands.specs.declared.entry.Entry.{Entry}
use Rattle.iscsi_commands.specs.Log.{AreTagged, IsLiveAt, entry_at, live_in, ticket_of}
use Rattle.iscsi_commands.proofs.LogLemmas.{live_within, live_below, live_taken, taken_lower}
use Rattle.iscsi_commands.proofs.TagIndexLemmas.{tagged_shorter}
use Rattle.iscsi_commands.proofs.live_commands.forget_ended.Goals as goal

-- those from a place on have tickets that aren't lower, and so aren't live
none_from : (log : List Entry) (n ticket : ℕ) → All (λ l. l.ticket < ticket) (live_in log) → ((k : ℕ) → n ≤ k → k < length log → ticket ≤ ticket_of (entry_at log k)) → (k : ℕ) → IsLiveAt log k → k < n
none_from log n ticket newest above k live = grind (arith, nat_tests, live_within log k live, live_below log ticket newest k live)

pub returns-then-not-is_newest-clause-same : goal.returns-then-not-is_newest-clause-same
returns-then-not-is_newest-clause-same c =
    let log = c.args.log.now.items in
    let n = c.count_below-below.result in
    let above = subst (λ (l : List Entry). (k : ℕ) → n ≤ k → k < length l → c.args.ticket ≤ ticket_of (entry_at l k)) c.deref-then-not-is_newest.ensures.value c.count_below-below.ensures.above in
    ap live_in c.shorten.ensures.log ∙ live_taken log n (none_from log n c.args.ticket c.requires.newest above)

pub returns-then-not-is_newest-clause-newest : goal.returns-then-not-is_newest-clause-newest
returns-then-not-is_newest-clause-newest c = grind (arith, nat_tests, taken_lower)

pub returns-then-not-is_newest-clause-tagged : goal.returns-then-not-is_newest-clause-tagged
returns-then-not-is_newest-clause-tagged c = λ places crowded others tagged.
    let log = c.args.log.now.items in
    let n = c.count_below-below.result in
    let above = subst (λ (l : List Entry). (k : ℕ) → n ≤ k → k < length l → c.args.ticket ≤ ticket_of (entry_at l k)) c.deref-then-not-is_newest.ensures.value c.count_below-below.ensures.above in
    subst (λ (l : List Entry). AreTagged l places crowded others) (sym c.shorten.ensures.log) (tagged_shorter log n tagged (none_from log n c.args.ticket c.requires.newest above))
