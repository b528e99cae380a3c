use Rattle.std.proofs.Common.{◌≡◌, ◌∙◌, ◌<◌, ℕ, List, Some, position, length, get_or, set, true, false, ap, sym, subst, arith}
use Rattle.std.proofs.lemmas.List.{get_or_default}
use Rattle.std.proofs.lemmas.List.Quantifiers.{position-Some}
use Rattle.iscsi_tasks.proofs.Names.{Member, is_new, given_now, BLANK, Chained, chained, IsMarked, IsFirstNew}
use Rattle.iscsi_tasks.proofs.GivingLemmas.{next_in_at, given_in_at}
use Rattle.iscsi_tasks.proofs.MarkedLemmas.{marked_given}
use Rattle.iscsi_tasks.proofs.linked_queue.give_next.Goals as goal

-- where the first new one stands
slot_in : {slots : List ℕ} {list : List Member} {slot : ℕ} → length slots ≡ length list → (is : IsFirstNew slots list slot) → is.place < length slots
slot_in long is = let l = is.inside in omega (arith, l, long)

-- what is written
written : (c : goal.After-give) → c.give.new.self ≡ chained c.args.chain.now.slots (set c.args.chain.now.members c.in-Some.ensures.place (given_now (get_or c.args.chain.now.members c.in-Some.ensures.place BLANK))) c.args.chain.now.room
written c = let is = c.in-Some.ensures in c.give.ensures is.place BLANK (slot_in c.requires.long is) is.there

found : (list : List Member) (k : ℕ) (d : Member) → position is_new list ≡ Some k → (k < length list) × (is_new (get_or list k d) ≡ true) × ((j : ℕ) → j < k → is_new (get_or list j d) ≡ false)
found list k d is = position-Some is_new list k d is

pub returns-clause-ticket : goal.returns-clause-ticket
returns-clause-ticket c =
    let is = c.in-Some.ensures in
    let list = c.args.chain.now.members in
    let at = found list is.place BLANK is.first in
    ap (λ (m : Member). Some m.task.ticket) (c.at.ensures is.place BLANK (slot_in c.requires.long is) is.there) ∙ sym (next_in_at list is.place BLANK at.0 at.2 at.1)

pub returns-clause-state : goal.returns-clause-state
returns-clause-state c =
    let is = c.in-Some.ensures in
    let list = c.args.chain.now.members in
    let at = found list is.place BLANK is.first in
    written c ∙ ap (λ ms. chained c.args.chain.now.slots ms c.args.chain.now.room) (sym (given_in_at list is.place BLANK at.0 at.2 at.1))

pub returns-clause-marked : goal.returns-clause-marked
returns-clause-marked c =
    let is = c.in-Some.ensures in
    let list = c.args.chain.now.members in
    subst (λ (v : Chained). IsMarked (record c.args.marks.now { new_from = c.after-marks.result }) v.slots v.members) (sym (written c))
    (marked_given c.requires is.place c.after-marks.result (get_or list is.place BLANK) is.inside (λ d. get_or_default list is.place d BLANK is.inside)
    (λ k d l. (found list is.place d is.first).2 k l) (c.after-marks.ensures is.place (slot_in c.requires.long is) is.there))
