-- What waits, as it begins and as a PDU enters.
use Rattle.std.proofs.Common.{◌≡◌, ◌≢◌, ℕ, zero, suc, ◌+◌, ◌-◌, ◌<◌, ◌≤◌, ◌==◌, cond, Bool, true, false, List, [], ◌∷◌, ◌++◌, length, map, get_or, set, replicate, Option, Some, None, IfSome, unwrap_or, refl, ap, sym, subst, ◌∙◌, arith, ⊎_elim}
use Rattle.std.proofs.lemmas.Bool.{cases_eq}
use Rattle.std.proofs.lemmas.List.{get_or-set_same, get_or-set_other, length-map}
use Rattle.iscsi_slots.specs.Slots.{times}
use Rattle.iscsi_lists.specs.Lists.{Listed, AreApart, counted, linked_in, times_in, total, without, with_last, last_of}
use Rattle.iscsi_lists.proofs.PlaceLemmas.{last_there}
use Rattle.iscsi_lists.proofs.WithoutLemmas.{times_same, times_other, times_in_with}
use Rattle.iscsi_outbox_state.specs.declared.waiting.Waiting.{Waiting}
use Rattle.iscsi_outbox_state.specs.Waits.{Entry, Waits, entry, entered, opened}
use Rattle.iscsi_waiting.specs.Counting.{HasPlace, counts_in, counts_of, nothing_counted, with_one}
use Rattle.iscsi_waiting.specs.Kept.{AreInFirst, BLANK, GoesTo, IsKept, entry_at, kept_at, kind_in, kind_of, moments_of, place_in, place_of, queues_of}
use Rattle.iscsi_waiting.specs.Known.{Ascend, IsFit}
use Rattle.iscsi_waiting.specs.Marks.{AreMarked, slots_at, value_at}
use Rattle.iscsi_waiting.specs.declared.counts.Counts.{Counts}
use Rattle.iscsi_waiting.specs.declared.slots.Kept.{Kept}
use Rattle.iscsi_waiting.proofs.AscendLemmas.{ascend_push, moved_ascend}
use Rattle.iscsi_waiting.proofs.CountLemmas.{all_place, conn_place, conns_more, counted_at, total_more}
use Rattle.iscsi_waiting.proofs.MarkLemmas.{Elsewhere, alike_marked, marked_in, moved_long, no_matter, times_any, waits_by}
use Rattle.iscsi_waiting.proofs.ShownLemmas.{map_alike, shown_push}

pub queues_long : (v : Listed Kept) → length (queues_of v) ≡ length v.lists
queues_long v = length-map v.lists (λ (slots : List ℕ). map (entry_at v) slots)

-- what is counted of a connection
module _ (v : Listed Kept) (owned fence : Listed ℕ) (cs : List Counts) (all : Counts) (time : ℕ) (kept : IsKept v owned fence cs all time) where
  pub conns_long : length cs ≡ length v.lists
  conns_long = ap (λ (xs : List Counts). length xs) kept.conns ∙ length-map (queues_of v) counts_of ∙ queues_long v

  pub counted_here : (conn : ℕ) → conn < length v.lists → (x : Counts) → x ≡ get_or cs conn x → x ≡ counts_of (get_or (queues_of v) conn [])
  counted_here conn l x read = read ∙ counted_at cs (queues_of v) conn x kept.conns (let a = queues_long v in omega (arith, a, l))

  module _ (known : AreApart (linked_in v)) (short : v.room < 4294967296) where
    few : total v.lists < 4294967296
    few = let a = known.all in omega (arith, a, short)

    pub conn_has_place : (conn : ℕ) → conn < length v.lists → (x : Counts) → x ≡ get_or cs conn x → HasPlace x
    conn_has_place conn l x read = conn_place (entry_at v) v.lists few x conn (let a = queues_long v in omega (arith, a, l)) (counted_here conn l x read)

    pub all_has_place : HasPlace all
    all_has_place = all_place (entry_at v) v.lists few all kept.total

-- a slot that is free
pub free_low : {X : Type 0} (v : Listed X) → AreApart (linked_in v) → (slot : ℕ) → last_of v.free ≡ Some slot → 1 ≤ slot
free_low v known slot last = known.some slot (let a = last_there slot v.free last in omega (arith, a))

pub free_high : {X : Type 0} (v : Listed X) → AreApart (linked_in v) → (slot : ℕ) → last_of v.free ≡ Some slot → slot ≤ v.room
free_high v known slot last = known.within slot (let a = last_there slot v.free last in omega (arith, a))

pub waits_same : (a b : Waits) → a.queues ≡ b.queues → a.time ≡ b.time → a.commands ≡ b.commands → a.room ≡ b.room → a ≡ b
waits_same a b queues time commands room =
    ap (λ (q : List (List Entry)). made q a.time a.commands a.room) queues ∙ ap (λ n. made b.queues n a.commands a.room) time
    ∙ ap (λ n. made b.queues b.time n a.room) commands ∙ ap (λ n. made b.queues b.time b.commands n) room
  where
    made : List (List Entry) → ℕ → ℕ → ℕ → Waits
    made queues time commands room = record { queues = queues; time = time; commands = commands; room = room }

-- later it is fit as well
pub fit_later : (time later commands : ℕ) (e : Entry) → time ≤ later → IsFit time commands e → IsFit later commands e
fit_later time later commands e le fit = record { past = let lt = fit.past in omega (arith, lt, le); command = fit.command; fence = fit.fence }

-- where the lists of commands are alike from 1 on
pub kept_alike : (v : Listed Kept) (owned p fence : Listed ℕ) (cs : List Counts) (all : Counts) (time list slot : ℕ) → GoesTo owned p list slot
    → IsKept v (record owned { lists = with_last list slot (map (without slot) owned.lists) }) fence cs all time → IsKept v p fence cs all time
kept_alike v owned p fence cs all time list slot goes kept =
    let m : Listed ℕ = record owned { lists = with_last list slot (map (without slot) owned.lists) } in
    let long : length p.lists ≡ length m.lists = goes.long ∙ sym (moved_long owned m list slot refl) in
    record {
      commands = alike_marked BLANK place_in v owned p list slot goes kept.commands;
      fences = kept.fences;
      kinds = kept.kinds;
      fit = λ s there. subst (λ n. IsFit time (n - 1) (entry_at v s)) (sym long) (kept.fit s there);
      ascend = kept.ascend;
      kinds_ascend = kept.kinds_ascend;
      conns = kept.conns;
      total = kept.total;
    }

-- ---- it begins

times_none : (s n : ℕ) → times_in s (replicate {A = List ℕ} n []) ≡ 0
times_none s zero = refl
times_none s (suc n) = let a = times_none s n in omega (arith, a)

pub none_at : (n k : ℕ) → get_or (replicate {A = List ℕ} n []) k [] ≡ []
none_at zero zero = refl
none_at zero (suc k) = refl
none_at (suc n) zero = refl
none_at (suc n) (suc k) = none_at n k

pub lists_long : (n : ℕ) → length (replicate {A = List ℕ} n []) ≡ n
lists_long zero = refl
lists_long (suc n) = ap suc (lists_long n)

pub counted_long : (n k : ℕ) → length (counted n k) ≡ k
counted_long n zero = refl
counted_long n (suc k) = ap suc (counted_long (suc n) k)

pub no_slots : (xs : List ℕ) → length xs ≡ 0 → xs ≡ []
no_slots [] none = refl
no_slots (x ∷ xs) none = absurd (omega (arith, none))

-- the lists behind the first one stay
pub pushed_first : (slot k : ℕ) (lists : List (List ℕ)) → 1 ≤ k → get_or (with_last 0 slot lists) k [] ≡ get_or lists k []
pushed_first slot k lists low = get_or-set_other lists 0 k (get_or lists 0 [] ++ slot ∷ []) [] (λ e. omega (arith, e, low))

shown_none : (g : ℕ → Entry) (n : ℕ) → map (λ (slots : List ℕ). map g slots) (replicate {A = List ℕ} n []) ≡ replicate n []
shown_none g zero = refl
shown_none g (suc n) = ap (λ (qs : List (List Entry)). [] ∷ qs) (shown_none g n)

counts_none : (n : ℕ) → map counts_of (replicate {A = List Entry} n []) ≡ replicate n nothing_counted
counts_none zero = refl
counts_none (suc n) = ap (λ (cs : List Counts). nothing_counted ∷ cs) (counts_none n)

total_none : (n : ℕ) → counts_in (replicate {A = List Entry} n []) ≡ nothing_counted
total_none zero = refl
total_none (suc n) = total_none n

module _ (v : Listed Kept) (conns room : ℕ) (lists : v.lists ≡ replicate conns []) (room_is : v.room ≡ room) where
  pub queues_none : queues_of v ≡ replicate conns []
  queues_none = ap (λ (ls : List (List ℕ)). map (λ (slots : List ℕ). map (entry_at v) slots) ls) lists ∙ shown_none (entry_at v) conns

  no_times : (s : ℕ) → times_in s v.lists ≡ 0
  no_times s = ap (times_in s) lists ∙ times_none s conns

  none_marked : (mark : Kept → ℕ) (m : Listed ℕ) (count : ℕ) → 1 ≤ count → AreInFirst m count room → AreMarked BLANK mark v m
  none_marked mark m count some are = record {
    all = are.all;
    room = are.room ∙ sym room_is;
    some = let a = are.lists in omega (arith, a, some);
    marks = λ k s low.
        ap (times s) (are.none k low)
        ∙ sym (ap (λ n. cond (mark (value_at BLANK v s) == k) n 0) (no_times s) ∙ no_matter (mark (value_at BLANK v s) == k));
  }

  pub opened_kept : (owned fence : Listed ℕ) (commands : ℕ) (cs : List Counts) → AreInFirst owned (commands + 1) room → AreInFirst fence 3 room → cs ≡ replicate conns nothing_counted
      → IsKept v owned fence cs nothing_counted 0
  opened_kept owned fence commands cs owned_are fence_are cs_are = record {
    commands = none_marked place_in owned (commands + 1) (omega arith) owned_are;
    fences = none_marked kind_in fence 3 (omega arith) fence_are;
    kinds = fence_are.lists;
    fit = λ s there. let a = no_times s in absurd (omega (arith, a, there));
    ascend = λ conn. subst (λ (q : List ℕ). Ascend (moments_of v q)) (sym (ap (λ (ls : List (List ℕ)). get_or ls conn []) lists ∙ none_at conns conn)) tt;
    kinds_ascend = λ kind low. subst (λ (q : List ℕ). Ascend (moments_of v q)) (sym (fence_are.none kind low)) tt;
    conns = cs_are ∙ sym (ap (map counts_of) queues_none ∙ counts_none conns);
    total = sym (ap counts_in queues_none ∙ total_none conns);
  }

  pub opened_state : (owned : Listed ℕ) (commands : ℕ) → AreInFirst owned (commands + 1) room → (w : Waits) → w ≡ record { queues = queues_of v; time = 0; commands = length owned.lists - 1; room = v.room }
      → w ≡ opened conns commands room
  opened_state owned commands are w is =
      is ∙ waits_same (record { queues = queues_of v; time = 0; commands = length owned.lists - 1; room = v.room }) (opened conns commands room)
      queues_none refl (let a = are.lists in omega (arith, a)) room_is

-- ---- a PDU enters

abbrev pub kind_by : Bool → Bool → ℕ
kind_by f t = cond f 1 (cond t 2 0)

kind_small_by : (f t : Bool) → kind_by f t < 3
kind_small_by true t = omega arith
kind_small_by false true = omega arith
kind_small_by false false = omega arith

pub kind_small : (w : Waiting) → kind_of w < 3
kind_small w = kind_small_by w.fenced w.takes

pub place_within : (command : Option ℕ) (lists : ℕ) → 1 ≤ lists → IfSome command (λ c. (1 ≤ c) × (c ≤ lists - 1)) → unwrap_or command 0 < lists
place_within None lists some fit = omega (arith, some)
place_within (Some c) lists some fit = let a = fit.0 in let b = fit.1 in omega (arith, a, b)

module _ (v : Listed Kept) (owned fence : Listed ℕ) (cs : List Counts) (all : Counts) (time : ℕ) (kept : IsKept v owned fence cs all time)
    (conn slot : ℕ) (item : Waiting) (l : conn < length v.lists) (t : Listed Kept)
    (is : t ≡ record v { free = without slot v.free; lists = with_last conn slot v.lists; values = set v.values slot (record { item = item; time = time }) })
    (fresh : times_in slot v.lists ≡ 0) (within : slot < length v.values) where
  abbrev came : Kept
  came = record { item = item; time = time }

  lists_are : t.lists ≡ with_last conn slot v.lists
  lists_are = ap (λ (u : Listed Kept). u.lists) is

  came_here : kept_at t slot ≡ came
  came_here = ap (λ (u : Listed Kept). kept_at u slot) is ∙ get_or-set_same v.values slot came BLANK within

  others_same : (s : ℕ) → s ≢ slot → kept_at t s ≡ kept_at v s
  others_same s apart = ap (λ (u : Listed Kept). kept_at u s) is ∙ get_or-set_other v.values slot s came BLANK apart

  entries_same : (s : ℕ) → s ≢ slot → entry_at t s ≡ entry_at v s
  entries_same s apart = ap (λ (k : Kept). entry k.time k.item) (others_same s apart)

  waits_more : (s : ℕ) → times_in s t.lists ≡ times_in s v.lists + times s (slot ∷ [])
  waits_more s = ap (times_in s) lists_are ∙ times_in_with conn slot s v.lists l

  waits_once : times_in slot t.lists ≡ 1
  waits_once = let a = waits_more slot in let b = times_same slot slot [] refl in omega (arith, a, b, fresh)

  elsewhere : Elsewhere BLANK v t slot
  elsewhere = record {
    values = others_same;
    waits = λ s apart. let a = waits_more s in let b = times_other s slot [] (λ e. apart (sym e)) in omega (arith, a, b);
    room = ap (λ (u : Listed Kept). u.room) is;
  }

  -- what waited is in another slot
  apart : (s : ℕ) → 1 ≤ times_in s v.lists → s ≢ slot
  apart s there same = let a = ap (λ n. times_in n v.lists) same in absurd (omega (arith, a, there, fresh))

  earlier : (s : ℕ) → 1 ≤ times_in s v.lists → (kept_at v s).time < time
  earlier s there = (kept.fit s there).past

  -- it came last
  later : (s : ℕ) → 1 ≤ times_in s v.lists → (kept_at t s).time < (kept_at t slot).time
  later s there =
      let a = ap (λ (k : Kept). k.time) (others_same s (apart s there)) in let b = ap (λ (k : Kept). k.time) came_here in
      let c = earlier s there in omega (arith, a, b, c)

  pub entered_queues : queues_of t ≡ set (queues_of v) conn (get_or (queues_of v) conn [] ++ entry time item ∷ [])
  entered_queues =
      ap (λ (ls : List (List ℕ)). map (λ (slots : List ℕ). map (entry_at t) slots) ls) lists_are
      ∙ shown_push (entry_at v) (entry_at t) conn slot v.lists entries_same fresh
      ∙ ap (λ (k : Kept). set (queues_of v) conn (get_or (queues_of v) conn [] ++ entry k.time k.item ∷ [])) came_here

  queues_ascend : (k : ℕ) → Ascend (moments_of t (slots_at t k))
  queues_ascend k = ⊎_elim
      (λ (same : k ≡ conn).
      subst (λ (q : List ℕ). Ascend (moments_of t q)) (sym (ap (slots_at t) same ∙ here))
      (ascend_push (λ s. (kept_at t s).time) slot (slots_at v conn) (λ s there. later s (waits conn s there)) (unmoved conn)))
      (λ other. subst (λ (q : List ℕ). Ascend (moments_of t q)) (sym (there k other)) (unmoved k))
      (cases_eq k conn)
    where
      waits : (k s : ℕ) → 1 ≤ times s (slots_at v k) → 1 ≤ times_in s v.lists
      waits k s there = let a = times_any s k v.lists in omega (arith, a, there)

      here : slots_at t conn ≡ slots_at v conn ++ slot ∷ []
      here = ap (λ (ls : List (List ℕ)). get_or ls conn []) lists_are ∙ get_or-set_same v.lists conn (slots_at v conn ++ slot ∷ []) [] l

      there : (k : ℕ) → k ≢ conn → slots_at t k ≡ slots_at v k
      there k other = ap (λ (ls : List (List ℕ)). get_or ls k []) lists_are ∙ get_or-set_other v.lists conn k (slots_at v conn ++ slot ∷ []) [] other

      unmoved : (k : ℕ) → Ascend (moments_of t (slots_at v k))
      unmoved k = subst Ascend
          (sym (map_alike (λ s. (kept_at v s).time) (λ s. (kept_at t s).time) (slots_at v k)
          (λ s at. ap (λ (k : Kept). k.time) (others_same s (apart s (waits k s at))))))
          (kept.ascend k)

  module _ (p f : Listed ℕ) (isp : p ≡ record owned { lists = with_last (place_of item) slot (map (without slot) owned.lists) })
      (isf : f ≡ record fence { lists = with_last (kind_of item) slot (map (without slot) fence.lists) })
      (place : place_of item < length owned.lists) (kind : kind_of item < length fence.lists) where
    pub entered_kept : (each more : Counts) → IsFit (time + 1) (length owned.lists - 1) (entry time item) → each ≡ with_one item (counts_of (get_or (queues_of v) conn [])) → more ≡ with_one item all
        → IsKept t p f (set cs conn each) more (time + 1)
    entered_kept each more fit each_is more_is = record {
      commands = marked_in BLANK place_in v owned kept.commands t slot elsewhere p (place_of item) isp place (ap place_in came_here) waits_once;
      fences = marked_in BLANK kind_in v fence kept.fences t slot elsewhere f (kind_of item) isf kind (ap kind_in came_here) waits_once;
      kinds = moved_long fence f (kind_of item) slot isf ∙ kept.kinds;
      fit = λ s there.
          subst (λ n. IsFit (time + 1) (n - 1) (entry_at t s)) (sym (moved_long owned p (place_of item) slot isp))
          (⊎_elim
          (λ (same : s ≡ slot). subst (λ (e : Entry). IsFit (time + 1) (length owned.lists - 1) e) (sym (ap (entry_at t) same ∙ ap (λ (k : Kept). entry k.time k.item) came_here)) fit)
          (λ other.
          subst (λ (e : Entry). IsFit (time + 1) (length owned.lists - 1) e) (sym (entries_same s other))
          (fit_later time (time + 1) (length owned.lists - 1) (entry_at v s) (omega arith)
          (kept.fit s (let a = elsewhere.waits s other in omega (arith, a, there)))))
          (cases_eq s slot));
      ascend = queues_ascend;
      kinds_ascend = λ k low.
          moved_ascend BLANK (λ (x : Kept). x.time) v t slot elsewhere fence f (kind_of item) isf kind k (kept.kinds_ascend k low)
          (λ same s off stands. later s ((waits_by BLANK kind_in v fence kept.fences k s low stands).0));
      conns = conns_more (queues_of v) conn time item (let a = queues_long v in omega (arith, a, l)) cs each kept.conns each_is ∙ ap (map counts_of) (sym entered_queues);
      total = total_more (queues_of v) conn time item (let a = queues_long v in omega (arith, a, l)) all more kept.total more_is ∙ ap counts_in (sym entered_queues);
    }

    pub entered_state : (now : Waits) → now ≡ record { queues = queues_of t; time = time + 1; commands = length p.lists - 1; room = t.room }
        → now ≡ entered conn item (record { queues = queues_of v; time = time; commands = length owned.lists - 1; room = v.room })
    entered_state now now_is =
        now_is
        ∙ waits_same (record { queues = queues_of t; time = time + 1; commands = length p.lists - 1; room = t.room })
        (entered conn item (record { queues = queues_of v; time = time; commands = length owned.lists - 1; room = v.room }))
        entered_queues refl (ap (λ n. n - 1) (moved_long owned p (place_of item) slot isp)) elsewhere.room
