-- What waits, as a slot leaves and as one is of no command any more.
use Rattle.std.proofs.Common.{◌≡◌, ◌≢◌, ℕ, ◌-◌, ◌<◌, ◌≤◌, List, [], ◌∷◌, ◌++◌, length, map, drop, get_or, set, Some, None, refl, ap, sym, subst, ◌∙◌, arith, ⊎_elim}
use Rattle.std.proofs.lemmas.Bool.{cases_eq}
use Rattle.std.proofs.lemmas.List.{get_or-set_same, get_or-set_other, set-get_or}
use Rattle.iscsi_slots.specs.Slots.{times}
use Rattle.iscsi_lists.specs.Lists.{Listed, AreApart, first_of, linked_in, times_in, without, with_last}
use Rattle.iscsi_lists.proofs.PlaceLemmas.{nth_map}
use Rattle.iscsi_lists.proofs.WithoutLemmas.{times_in_other, times_in_without}
use Rattle.iscsi_outbox_state.specs.declared.waiting.Waiting.{Waiting}
use Rattle.iscsi_outbox_state.specs.Waits.{Entry, entry, first_item, is_own, is_reply, of_none, popped}
use Rattle.iscsi_waiting.specs.Counting.{HasOne, counts_in, counts_of, without_one}
use Rattle.iscsi_waiting.specs.Kept.{BLANK, IsKept, Leaves, entry_at, kept_at, kind_in, let_go, moments_of, place_in, queue_of, queues_of, waits_of}
use Rattle.iscsi_waiting.specs.Known.{Ascend, IsFit}
use Rattle.iscsi_waiting.specs.Marks.{slots_at}
use Rattle.iscsi_waiting.specs.declared.counts.Counts.{Counts}
use Rattle.iscsi_waiting.specs.declared.slots.Kept.{Kept}
use Rattle.iscsi_waiting.specs.declared.slots.Slots.{Slots}
use Rattle.iscsi_waiting.proofs.AscendLemmas.{ascend_without, moved_ascend}
use Rattle.iscsi_waiting.proofs.CountLemmas.{CountsAlike, all_one, conn_one, conns_alike, conns_fewer, total_fewer, totals_alike}
use Rattle.iscsi_waiting.proofs.EnterLemmas.{queues_long, waits_same}
use Rattle.iscsi_waiting.proofs.MarkLemmas.{Elsewhere, marked_first, marked_out, moved_long, once_in, stays_marked, times_any}
use Rattle.iscsi_waiting.proofs.ShownLemmas.{first_there, map_alike, map_drop, none_first, shown_at, shown_out}

-- ---- a slot leaves

module _ (v : Listed Kept) (owned fence : Listed ℕ) (cs : List Counts) (all : Counts) (time : ℕ) (kept : IsKept v owned fence cs all time) (known : AreApart (linked_in v))
    (conn slot : ℕ) (l : conn < length v.lists) (there : 1 ≤ times slot (slots_at v conn)) where
  once : times slot (slots_at v conn) ≡ 1
  once = let a = times_any slot conn v.lists in let b = once_in v known slot in omega (arith, a, b, there)

  within : conn < length (queues_of v)
  within = let a = queues_long v in omega (arith, a, l)

  queue_is : get_or (queues_of v) conn [] ≡ queue_of v (slots_at v conn)
  queue_is = shown_at (entry_at v) conn v.lists

  abbrev item : Waiting
  item = (kept_at v slot).item

  abbrev when : ℕ
  when = (kept_at v slot).time

  -- it was counted
  pub conn_has : (each : Counts) → each ≡ counts_of (get_or (queues_of v) conn []) → HasOne item each
  conn_has each is = conn_one (entry_at v) v.lists conn slot within (slots_at v conn) queue_is once when item refl each is

  pub all_has : HasOne item all
  all_has = all_one (entry_at v) v.lists conn slot within (slots_at v conn) queue_is once when item refl all kept.total

  module _ (t : Listed Kept) (is : t ≡ record v { free = v.free ++ slot ∷ []; lists = map (without slot) v.lists }) where
    lists_are : t.lists ≡ map (without slot) v.lists
    lists_are = ap (λ (u : Listed Kept). u.lists) is

    all_same : (s : ℕ) → kept_at t s ≡ kept_at v s
    all_same s = ap (λ (u : Listed Kept). kept_at u s) is

    gone : times_in slot t.lists ≡ 0
    gone = ap (times_in slot) lists_are ∙ times_in_without slot v.lists

    elsewhere : Elsewhere BLANK v t slot
    elsewhere = record {
      values = λ s apart. all_same s;
      waits = λ s apart. ap (times_in s) lists_are ∙ times_in_other slot s v.lists apart;
      room = ap (λ (u : Listed Kept). u.room) is;
    }

    -- what waits did so before
    waited : (s : ℕ) → 1 ≤ times_in s t.lists → 1 ≤ times_in s v.lists
    waited s stands = ⊎_elim
        (λ (same : s ≡ slot). let a = ap (λ n. times_in n t.lists) same in absurd (omega (arith, a, gone, stands)))
        (λ other. let a = elsewhere.waits s other in omega (arith, a, stands))
        (cases_eq s slot)

    pub left_queues : queues_of t ≡ set (queues_of v) conn (queue_of v (without slot (slots_at v conn)))
    left_queues =
        ap (λ (u : Listed Kept). queues_of u) is
        ∙ shown_out (entry_at v) conn slot v.lists there (once_in v known slot)

    module _ (p f : Listed ℕ) (isp : p ≡ record owned { lists = with_last 0 slot (map (without slot) owned.lists) }) (isf : f ≡ record fence { lists = with_last 0 slot (map (without slot) fence.lists) }) where
      pub left_kept : (each fewer : Counts) → each ≡ without_one item (counts_of (get_or (queues_of v) conn [])) → fewer ≡ without_one item all → IsKept t p f (set cs conn each) fewer time
      left_kept each fewer each_is fewer_is = record {
        commands = marked_out BLANK place_in v owned kept.commands t slot elsewhere p 0 isp kept.commands.some refl gone;
        fences = marked_out BLANK kind_in v fence kept.fences t slot elsewhere f 0 isf kept.fences.some refl gone;
        kinds = moved_long fence f 0 slot isf ∙ kept.kinds;
        fit = λ s stands.
            subst (λ n. IsFit time (n - 1) (entry_at t s)) (sym (moved_long owned p 0 slot isp))
            (subst (λ (k : Kept). IsFit time (length owned.lists - 1) (entry k.time k.item)) (sym (all_same s)) (kept.fit s (waited s stands)));
        ascend = λ k.
            subst (λ (q : List ℕ). Ascend (moments_of t q)) (sym (ap (λ (ls : List (List ℕ)). get_or ls k []) lists_are ∙ nth_map slot k v.lists))
            (subst (λ (u : Listed Kept). Ascend (moments_of u (without slot (slots_at v k)))) (sym is)
            (ascend_without (λ s. (kept_at v s).time) slot (slots_at v k) (kept.ascend k)));
        kinds_ascend = λ k low.
            moved_ascend BLANK (λ (x : Kept). x.time) v t slot elsewhere fence f 0 isf kept.fences.some k (kept.kinds_ascend k low) (λ none. absurd (omega (arith, none, low)));
        conns =
            conns_fewer (entry_at v) v.lists conn slot within (slots_at v conn) queue_is once when item refl cs each kept.conns each_is
            ∙ ap (map counts_of) (sym left_queues);
        total =
            total_fewer (entry_at v) v.lists conn slot within (slots_at v conn) queue_is once when item refl all fewer kept.total fewer_is
            ∙ ap counts_in (sym left_queues);
      }

-- ---- the first one of a connection leaves

module _ (old : Slots) (conn slot : ℕ) (known : AreApart (linked_in old.waiting)) (first : first_of (slots_at old.waiting conn) ≡ Some slot) where
  pub first_waits : 1 ≤ times_in slot old.waiting.lists
  first_waits = let a = first_there slot (slots_at old.waiting conn) first in let b = times_any slot conn old.waiting.lists in omega (arith, a, b)

  first_entry : (slots : List ℕ) → first_of slots ≡ Some slot → Some ((kept_at old.waiting slot).item) ≡ first_item (queue_of old.waiting slots)
  first_entry [] none = absurd (cc)
  first_entry (s ∷ slots) some = let same : slot ≡ s = cc in ap (λ n. Some ((kept_at old.waiting n).item)) same

  pub popped_item : Some ((kept_at old.waiting slot).item) ≡ first_item (get_or (queues_of old.waiting) conn [])
  popped_item = first_entry (slots_at old.waiting conn) first ∙ ap first_item (sym (shown_at (entry_at old.waiting) conn old.waiting.lists))

  pub popped_state : (new : Slots) → Leaves old new slot → waits_of new ≡ popped conn (waits_of old)
  popped_state new left =
      let v = old.waiting in
      let few : times slot (slots_at v conn) ≤ 1 = (let a = times_any slot conn v.lists in let b = once_in v known slot in omega (arith, a, b)) in
      waits_same (waits_of new) (popped conn (waits_of old))
      (ap (λ (ls : List (List ℕ)). map (λ (slots : List ℕ). map (entry_at new.waiting) slots) ls) left.lists
      ∙ ap (λ (xs : List Kept). map (λ (slots : List ℕ). map (λ s. let k = get_or xs s BLANK in entry k.time k.item) slots) (map (without slot) v.lists)) left.values
      ∙ shown_out (entry_at v) conn slot v.lists (first_there slot (slots_at v conn) first) (once_in v known slot)
      ∙ ap (λ (q : List Entry). set (queues_of v) conn q) (map_drop (entry_at v) slot (slots_at v conn) first few ∙ ap (drop 1) (sym (shown_at (entry_at v) conn v.lists))))
      left.time commands left.room
    where
      commands : length new.owned.lists - 1 ≡ length old.owned.lists - 1
      commands = ap (λ n. n - 1) left.owned.long

-- where there is none, nothing changes
module _ (old : Slots) (conn : ℕ) (none : first_of (slots_at old.waiting conn) ≡ None) where
  queue_none : get_or (queues_of old.waiting) conn [] ≡ []
  queue_none = shown_at (entry_at old.waiting) conn old.waiting.lists ∙ ap (queue_of old.waiting) (none_first (slots_at old.waiting conn) none)

  pub unpopped_item : None ≡ first_item (get_or (queues_of old.waiting) conn [])
  unpopped_item = sym (ap first_item queue_none)

  pub unpopped_state : waits_of old ≡ popped conn (waits_of old)
  unpopped_state =
      ap (λ (qs : List (List Entry)). record (waits_of old) { queues = qs })
      (sym (set-get_or (queues_of old.waiting) conn []) ∙ ap (λ (q : List Entry). set (queues_of old.waiting) conn q) (queue_none ∙ sym (ap (drop 1) queue_none)))

-- ---- what a slot has is of no command any more

module _ (v : Listed Kept) (owned fence : Listed ℕ) (cs : List Counts) (all : Counts) (time : ℕ) (kept : IsKept v owned fence cs all time)
    (slot : ℕ) (within : slot < length v.values) (waits : 1 ≤ times_in slot v.lists) (x : Kept) (x_is : x ≡ let_go (kept_at v slot)) (t : Listed Kept) (is : t ≡ record v { values = set v.values slot x }) where
  let_here : kept_at t slot ≡ let_go (kept_at v slot)
  let_here = ap (λ (u : Listed Kept). kept_at u slot) is ∙ get_or-set_same v.values slot x BLANK within ∙ x_is

  others_same : (s : ℕ) → s ≢ slot → kept_at t s ≡ kept_at v s
  others_same s apart = ap (λ (u : Listed Kept). kept_at u s) is ∙ get_or-set_other v.values slot s x BLANK apart

  -- what doesn't look at commands is the same of all
  alike : {Y : Type 0} (look : Kept → Y) → ((k : Kept) → look (let_go k) ≡ look k) → (s : ℕ) → look (kept_at t s) ≡ look (kept_at v s)
  alike look blind s = ⊎_elim
      (λ (same : s ≡ slot). ap (λ n. look (kept_at t n)) same ∙ ap look let_here ∙ blind (kept_at v slot) ∙ ap (λ n. look (kept_at v n)) (sym same))
      (λ other. ap look (others_same s other))
      (cases_eq s slot)

  when_alike : (s : ℕ) → (kept_at t s).time ≡ (kept_at v s).time
  when_alike = alike (λ (k : Kept). k.time) (λ k. refl)

  lists_same : t.lists ≡ v.lists
  lists_same = ap (λ (u : Listed Kept). u.lists) is

  let_elsewhere : Elsewhere BLANK v t slot
  let_elsewhere = record { values = others_same; waits = λ s apart. ap (times_in s) lists_same; room = ap (λ (u : Listed Kept). u.room) is }

  fit_let : (lists : ℕ) (k : Kept) → IsFit time lists (entry k.time k.item) → IsFit time lists (entry k.time (of_none k.item))
  fit_let lists k fit = record { past = fit.past; command = tt; fence = fit.fence }

  moments_same : (slots : List ℕ) → Ascend (moments_of v slots) → Ascend (moments_of t slots)
  moments_same slots up = subst Ascend (sym (map_alike (λ s. (kept_at v s).time) (λ s. (kept_at t s).time) slots (λ s there. when_alike s))) up

  counted : CountsAlike (entry_at v) (entry_at t)
  counted = record {
    own = alike (λ (k : Kept). is_own (entry k.time k.item)) (λ k. refl);
    replies = alike (λ (k : Kept). is_reply (entry k.time k.item)) (λ k. refl);
    taking = alike (λ (k : Kept). k.item.takes) (λ k. refl);
    fenced = alike (λ (k : Kept). k.item.fenced) (λ k. refl);
    numbered = alike (λ (k : Kept). k.item.numbered) (λ k. refl);
  }

  module _ (p : Listed ℕ) (isp : p ≡ record owned { lists = with_last 0 slot (map (without slot) owned.lists) }) where
    pub let_kept : IsKept t p fence cs all time
    let_kept = record {
      commands = marked_first BLANK place_in v owned kept.commands t slot let_elsewhere p 0 isp kept.commands.some refl (ap place_in let_here);
      fences = stays_marked BLANK kind_in v fence kept.fences t slot let_elsewhere (alike kind_in (λ k. refl) slot) (ap (times_in slot) lists_same);
      kinds = kept.kinds;
      fit = λ s there.
          subst (λ n. IsFit time (n - 1) (entry_at t s)) (sym (moved_long owned p 0 slot isp))
          (⊎_elim
          (λ (same : s ≡ slot).
          subst (λ (e : Entry). IsFit time (length owned.lists - 1) e) (sym (ap (entry_at t) same ∙ ap (λ (k : Kept). entry k.time k.item) let_here))
          (fit_let (length owned.lists - 1) (kept_at v slot) (kept.fit slot waits)))
          (λ other.
          subst (λ (k : Kept). IsFit time (length owned.lists - 1) (entry k.time k.item)) (sym (others_same s other))
          (kept.fit s (let a = ap (times_in s) lists_same in omega (arith, a, there))))
          (cases_eq s slot));
      ascend = λ k. subst (λ (ls : List (List ℕ)). Ascend (moments_of t (get_or ls k []))) (sym lists_same) (moments_same (slots_at v k) (kept.ascend k));
      kinds_ascend = λ k low. moments_same (slots_at fence k) (kept.kinds_ascend k low);
      conns = kept.conns ∙ sym (conns_alike (entry_at v) (entry_at t) counted v.lists) ∙ ap (λ (ls : List (List ℕ)). map counts_of (map (λ (slots : List ℕ). map (entry_at t) slots) ls)) (sym lists_same);
      total = kept.total ∙ sym (totals_alike (entry_at v) (entry_at t) counted v.lists) ∙ ap (λ (ls : List (List ℕ)). counts_in (map (λ (slots : List ℕ). map (entry_at t) slots) ls)) (sym lists_same);
    }
