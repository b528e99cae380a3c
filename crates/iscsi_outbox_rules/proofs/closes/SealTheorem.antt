-- Nothing goes out on a connection behind a PDU that closes it and went out there.
use Rattle.std.proofs.Common.{◌≡◌, ℕ, ◌==◌, true, false, List, [], ◌∷◌, ◌++◌, map, drop, Some, refl, ap, sym, subst, ◌∙◌}
use Rattle.std.specs.List.{list_any}
use Rattle.std.proofs.lemmas.Bool.{cond_both}
use Rattle.std.proofs.lemmas.List.{append_assoc}
use Rattle.iscsi_rules.specs.declared.effect.Effect.{Effect}
use Rattle.iscsi_outbox_rules.specs.rules.Calls.{Opening, Call, Nexts}
use Rattle.iscsi_outbox_rules.specs.rules.Boxes.{Outgoing, Handed, Link, Box}
use Rattle.iscsi_outbox_rules.specs.rules.Words.{contains}
use Rattle.iscsi_outbox_rules.specs.rules.Handing.{is_from_queue, taken_from}
use Rattle.iscsi_outbox_rules.specs.rules.Run.{new_link, opened, answered}
use Rattle.iscsi_outbox_rules.specs.promises.Deeds.{Deed, deeds_of, items_in, handed_in_deed, handed_on}
use Rattle.iscsi_outbox_rules.proofs.general.EachLemmas.{EachOf, each-first_of}
use Rattle.iscsi_outbox_rules.proofs.general.SortedLemmas.{SortedBy, sorted-at}
use Rattle.iscsi_outbox_rules.proofs.general.DeedLemmas.{items_in-append, handed_on-append, some_on}
use Rattle.iscsi_outbox_rules.proofs.general.FoundLemmas.{find_link, found-conn}
use Rattle.iscsi_outbox_rules.proofs.general.Cuts.{Handing, at_handing}
use Rattle.iscsi_outbox_rules.proofs.general.Chosen.{FromQueue, chosen_from}
use Rattle.iscsi_outbox_rules.proofs.general.ConnLemmas.{conns_of}
use Rattle.iscsi_outbox_rules.proofs.general.LinkRuns.{Fit, LinkShows, link_starts}
use Rattle.iscsi_outbox_rules.proofs.closes.MarkRuns.{closed_by, cut_by, Marked}
use Rattle.iscsi_outbox_rules.proofs.closes.MarkItems.{MarksStand}
use Rattle.iscsi_outbox_rules.proofs.closes.MarkCalls.{marks_kept, marks_start}
use Rattle.iscsi_outbox_rules.proofs.closes.SealRuns.{Last, Over, LineOf, Sealed}
use Rattle.iscsi_outbox_rules.proofs.closes.SealItems.{Hush, handed_last}
use Rattle.iscsi_outbox_rules.proofs.closes.SealCalls.{SealStand, seal_kept}

-- a connection on which something goes out is the session's
pub known_conn : (o : Opening) (calls : List Call) (before after : List Deed) (handing : Deed) (c : ℕ) (h : Handed)
    → before ++ handing ∷ after ≡ deeds_of o calls → handed_in_deed handing ≡ Some (c, h) → list_any (λ k. k == c) (conns_of (opened o).links) ≡ true
known_conn o calls before after handing c h whole shown =
    let cs : List ℕ = conns_of (opened o).links in
    let n = at_handing o calls (λ (ds : List Deed) (b : Box). MarksStand cs (items_in ds) b) (marks_kept o cs) (marks_start o) before after handing c h whole shown in
    let mark : Marked cs (closed_by (items_in before)) (cut_by (items_in before)) n.2.link = each-first_of (Marked cs (closed_by (items_in before)) (cut_by (items_in before))) (λ (m : Link). m.conn == c) n.0.links n.2.link n.2.found n.1.marks in
    ap (λ k. list_any (λ j. j == k) cs) (sym (found-conn c n.0.links n.2.link n.2.found)) ∙ mark.known

-- where no item sends on a connection that an item before it closed
pub none_behind_closing : (o : Opening) (calls : List Call) (c : ℕ) → ((before rest : List (List Effect)) (item : List Effect) → before ++ item ∷ rest ≡ items_in (deeds_of o calls) → Hush c before item)
    → (before between after : List Deed) (deed later : Deed) (h g : Handed) → before ++ deed ∷ (between ++ later ∷ after) ≡ deeds_of o calls
    → handed_in_deed deed ≡ Some (c, h) → handed_in_deed later ≡ Some (c, g) → contains h.out.closes c ≡ false
none_behind_closing o calls c hush before between after deed later h g whole shown shown_later =
    sorted-at (Last c) (map (λ (x : Handed). x.out) (handed_on c before)) (map (λ (x : Handed). x.out) (handed_on c between)) (taken_from out link).queue h.out g.out (subst (SortedBy (Last c)) whole_line sorted)
  where
    cs : List ℕ
    cs = conns_of (opened o).links

    all : List (List Effect)
    all = items_in (deeds_of o calls)

    since : List Deed
    since = before ++ deed ∷ between

    whole_since : since ++ later ∷ after ≡ deeds_of o calls
    whole_since = append_assoc before (deed ∷ between) (later ∷ after) ∙ whole

    known : list_any (λ k. k == c) cs ≡ true
    known = known_conn o calls since after later c g whole_since shown_later

    unqueued : (xs : List (ℕ × ℕ)) → EachOf (λ (l : Link). l.queue ≡ []) (map (λ (x : ℕ × ℕ). new_link x.0) xs)
    unqueued [] = tt
    unqueued (x ∷ xs) = (refl, unqueued xs)

    start : SealStand c o cs known all [] (opened o)
    start = record { shows = link_starts o; marks = marks_start o; sealed = λ rest is. record { lines = starts; undue = tt; undue_over = tt } }
      where
        starts : (l : Link) → find_link c (opened o).links ≡ Some l → LineOf c [] [] l
        starts l found =
            let shows : LinkShows [] l = each-first_of (LinkShows []) (λ (m : Link). m.conn == c) (opened o).links l found (link_starts o).links in
            empty l shows.handed (each-first_of (λ (m : Link). m.queue ≡ []) (λ (m : Link). m.conn == c) (opened o).links l found (unqueued o.session.conns))
          where
            empty : (m : Link) → m.handed ≡ [] → m.queue ≡ [] → LineOf c [] [] m
            empty m none nothing =
                let same : [] ≡ map (λ (x : Handed). x.out) m.handed ++ m.queue = sym (ap (λ hs. map (λ (x : Handed). x.out) hs ++ m.queue) none ∙ nothing) in
                record { last = subst (SortedBy (Last c)) same tt; over = subst (EachOf (Over c [])) same tt; clear = tt }

    m : (b : Box) × SealStand c o cs known all since b × Handing o b c g × (later ≡ (Nexts c, answered o b (Nexts c)))
    m = at_handing o calls (SealStand c o cs known all) (seal_kept c o cs known all hush) start since after later c g whole_since shown_later

    b : Box
    b = m.0

    n : Handing o b c g
    n = m.2

    link : Link
    link = n.link

    out : Outgoing
    out = n.out

    at_conn : link.conn ≡ c
    at_conn = found-conn c b.links link n.found

    shows : LinkShows since link
    shows = each-first_of (LinkShows since) (λ (l : Link). l.conn == c) b.links link n.found m.1.shows.links

    sealed : Sealed c (items_in since) b
    sealed = m.1.sealed (items_in (later ∷ after)) (sym (items_in-append since (later ∷ after)) ∙ ap items_in whole_since)

    last : LineOf c (items_in since) b.undue (let k : Link = taken_from out link in record k { handed = k.handed ++ g ∷ [] })
    last =
        handed_last c o cs known (items_in since) b link out g (ap (λ (x : Handed). x.out) n.is) at_conn m.1.marks.marks (chosen_from o b link out n.chosen_is)
        (λ (q : FromQueue o b link out). (subst (EachOf Fit) q.queue_is shows.fit).0.queued) (sealed.lines link n.found)

    same_handed : (taken_from out link).handed ≡ link.handed
    same_handed = cond_both (is_from_queue out) (record link { queue = drop 1 link.queue }) link (λ (x : Link). x.handed ≡ link.handed) (λ is. refl) (λ is. refl)

    sorted : SortedBy (Last c) (map (λ (x : Handed). x.out) (link.handed ++ g ∷ []) ++ (taken_from out link).queue)
    sorted = subst (λ hs. SortedBy (Last c) (map (λ (x : Handed). x.out) (hs ++ g ∷ []) ++ (taken_from out link).queue)) same_handed last.last

    went : link.handed ≡ handed_on c before ++ h ∷ handed_on c between
    went =
        shows.handed ∙ ap (λ e. handed_on e since) at_conn ∙ handed_on-append c before (deed ∷ between)
        ∙ ap (λ hs. handed_on c before ++ hs) (handed_on-append c (deed ∷ []) between ∙ ap (λ hs. hs ++ handed_on c between) (some_on c deed h shown))

    parts : (xs ys : List Handed) (zs : List Outgoing) → map (λ (x : Handed). x.out) ((xs ++ h ∷ ys) ++ g ∷ []) ++ zs ≡ map (λ (x : Handed). x.out) xs ++ h.out ∷ (map (λ (x : Handed). x.out) ys ++ g.out ∷ zs)
    parts [] [] zs = refl
    parts [] (y ∷ ys) zs = ap (λ rest. h.out ∷ y.out ∷ rest) (tail ys)
      where
        tail : (us : List Handed) → map (λ (x : Handed). x.out) (us ++ g ∷ []) ++ zs ≡ map (λ (x : Handed). x.out) us ++ g.out ∷ zs
        tail [] = refl
        tail (u ∷ us) = ap (λ rest. u.out ∷ rest) (tail us)
    parts (x ∷ xs) ys zs = ap (λ rest. x.out ∷ rest) (parts xs ys zs)

    whole_line : map (λ (x : Handed). x.out) (link.handed ++ g ∷ []) ++ (taken_from out link).queue ≡ map (λ (x : Handed). x.out) (handed_on c before) ++ h.out ∷ (map (λ (x : Handed). x.out) (handed_on c between) ++ g.out ∷ (taken_from out link).queue)
    whole_line = ap (λ hs. map (λ (x : Handed). x.out) (hs ++ g ∷ []) ++ (taken_from out link).queue) went ∙ parts (handed_on c before) (handed_on c between) (taken_from out link).queue
