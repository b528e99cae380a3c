-- The commands that are withheld behind an item are those that were before it, and those that it enables and that are: in the order of
-- their tickets.
use Rattle.std.proofs.Common.{◌≡◌, ℕ, ◌+◌, ◌<◌, ◌==◌, ◌&&◌, ◌||◌, not, Bool, true, false, List, count_by, filter, refl, ap, sym, subst, ◌∙◌, arith, ne_eqb}
use Rattle.std.proofs.lemmas.Bool.{eqb-true, eq-eqb, false≢true, not-true}
use Rattle.std.proofs.lemmas.List.Folds.{list_any-append}
use Rattle.iscsi_rules.specs.rules.Trace.{Command, entered, has, leaves_ticket, live, was_free}
use Rattle.iscsi_rules.proofs.general.CountLemmas.{one, count-filter}
use Rattle.iscsi_rules.proofs.general.ElementLemmas.{In, filter-in, in-filter}
use Rattle.iscsi_rules.proofs.general.ListLemmas.{count_by-map, list_any-map}
use Rattle.iscsi_outbox_law.specs.private.Pairs.{InOrder}
use Rattle.iscsi_outbox_rules.specs.rules.Words.{contains}
use Rattle.iscsi_ffi_rules.specs.rules.Calls.{Interface}
use Rattle.iscsi_ffi_rules.specs.rules.Clearing.{is_withheld}
use Rattle.iscsi_ffi_rules.specs.rules.Sides.{Side}
use Rattle.iscsi_ffi_steps.specs.State.{State}
use Rattle.iscsi_ffi_law.specs.Done.{IsRegular}
use Rattle.iscsi_ffi_law.specs.Names.{Name, Note}
use Rattle.iscsi_ffi_law.proofs.general.Ascending.{GoUp, all_more, all_up, filtered_up, same_list, thrice_up, times}
use Rattle.iscsi_ffi_law.proofs.commands.Commands.{one_command}
use Rattle.iscsi_ffi_law.proofs.completions.DoneBox.{IsFound}
use Rattle.iscsi_ffi_law.proofs.completions.DoneCounts.{in_news, is_new, news_counted}
use Rattle.iscsi_ffi_law.proofs.completions.DoneRequests.{done_side}
use Rattle.iscsi_ffi_law.proofs.completions.DoneRules.{apart_after, new_one, ns, side_after, untold_before}
use Rattle.iscsi_ffi_law.proofs.completions.DoneShape.{IsNew, done_trace, entered_same, free_still, left_too, tickets_of}
use Rattle.iscsi_ffi_law.proofs.requests.Kept.{count_members}
use Rattle.iscsi_ffi_law.proofs.general.Members.{Passing, any_in, in_any}
use Rattle.iscsi_ffi_law.proofs.commands.Starting.{all_inserted, starting_of, withheld_of}
use Rattle.iscsi_ffi_law.proofs.commands.Stopping.{count_sum}

-- the commands that are enabled, and weren't told to start
abbrev pub held_of : Side → List Command
held_of r = filter (λ (c : Command). was_free c r.both.trace && not (contains r.told c.ticket)) (live r.both.trace)

-- ---- a command

-- what is known of one: `gone` and `left`: it is the one that completes, and it has left; `was` and `is`: it was free before, and is;
-- `told` and `now`: it was told to start before, and is by this item; `held`: it is withheld
abbrev Facts : (gone left was is told now held : Bool) → Type 0
Facts gone left was is told now held = (gone || left) ≡ false → ((was ≡ true → (now ≡ false) × (is ≡ true)) × (was ≡ false → is ≡ true → (told ≡ false) × (now ≡ not held)))

none_gone : (left was told : Bool) → one (not left && ((was && not told) && false)) ≡ 0
none_gone true was told = refl
none_gone false false told = refl
none_gone false true true = refl
none_gone false true false = refl

one_command_counts : (gone left was is told now held it : Bool) → Facts gone left was is told now held
    → one (not (gone || left) && ((is && not (told || now)) && it)) ≡ one (not left && ((was && not told) && (not gone && it))) + one (not (gone || left) && ((is && not was) && (held && it)))
one_command_counts true left was is told now held it facts = let none = none_gone left was told in omega (arith, none)
one_command_counts false true was is told now held it facts = refl
one_command_counts false false true is told now held it facts =
    let k = (facts refl).0 refl in
    subst (λ v. one ((v && not (told || now)) && it) ≡ one ((true && not told) && it) + one ((v && false) && (held && it))) (sym k.1)
    (subst (λ v. one ((true && not (told || v)) && it) ≡ one ((true && not told) && it) + 0) (sym k.0) (by_told told))
  where
    by_told : (u : Bool) → one (not (u || false) && it) ≡ one (not u && it) + 0
    by_told true = refl
    by_told false = omega arith
one_command_counts false false false false told now held it facts = refl
one_command_counts false false false true told now held it facts =
    let k = (facts refl).1 refl refl in
    subst (λ v. one (not (v || now) && it) ≡ 0 + one (held && it)) (sym k.0) (subst (λ v. one (not v && it) ≡ 0 + one (held && it)) (sym k.1) (by_held held))
  where
    by_held : (u : Bool) → one (not (not u) && it) ≡ 0 + one (u && it)
    by_held true = omega arith
    by_held false = refl

module _ (i : Interface) (names : List Name) (notes : List Note) (s : State) (r : Side) (d : Command) (status : ℕ) (f : IsFound i names notes s r d status) (regular : IsRegular i r) where
  -- it is told to start by this item
  abbrev now_told : Command → Bool
  now_told c = contains (tickets_of (starting_of (done_side i names notes s r d status f) (ns i names notes s r d status f))) c.ticket

  abbrev is_held : Command → Bool
  is_held c = is_withheld (done_side i names notes s r d status f) c

  started_one : (c : Command) → now_told c ≡ true → (m : Command) × In m (ns i names notes s r d status f) × (is_held m ≡ false) × (m.ticket ≡ c.ticket)
  started_one c told =
      let x : Passing (λ (m : Command). m.ticket == c.ticket) (starting_of (done_side i names notes s r d status f) (ns i names notes s r d status f))
      = any_in (λ (m : Command). m.ticket == c.ticket) (starting_of (done_side i names notes s r d status f) (ns i names notes s r d status f)) (sym (list_any-map (λ k. k == c.ticket) (λ (m : Command). m.ticket) (starting_of (done_side i names notes s r d status f) (ns i names notes s r d status f))) ∙ told) in
      let g = in-filter (λ (m : Command). not (is_held m)) (ns i names notes s r d status f) x.x x.there in
      (x.x, g.0, not-true (is_held x.x) g.1, eqb-true x.x.ticket c.ticket x.passes)

  -- no other one has its ticket
  itself : (c m : Command) → In c (entered (done_trace r.both.trace d status)) → In m (ns i names notes s r d status f) → m.ticket ≡ c.ticket → m ≡ c
  itself c m there at same = one_command (entered (done_trace r.both.trace d status)) m c (apart_after i names notes s r d status f) (new_one i names notes s r d status f m at).there there same

  facts : (c : Command) → In c (entered r.both.trace) → Facts (d.ticket == c.ticket) (has (leaves_ticket c.ticket) r.both.trace) (was_free c r.both.trace) (was_free c (done_trace r.both.trace d status)) (contains r.told c.ticket) (now_told c) (is_held c)
  facts c before lives = (was, new)
    where
      there : In c (entered (done_trace r.both.trace d status))
      there = subst (In c) (sym (entered_same r.both.trace d status)) before

      still : has (leaves_ticket c.ticket) (done_trace r.both.trace d status) ≡ false
      still = left_too r.both.trace d status c.ticket ∙ lives

      at : In c (live (done_trace r.both.trace d status))
      at = filter-in (λ (x : Command). not (has (leaves_ticket x.ticket) (done_trace r.both.trace d status))) (entered (done_trace r.both.trace d status)) c there (ap not still)

      was : was_free c r.both.trace ≡ true → (now_told c ≡ false) × (was_free c (done_trace r.both.trace d status) ≡ true)
      was free = (by_test (now_told c) refl, free_still r.both.trace d status c free)
        where
          by_test : (v : Bool) → now_told c ≡ v → v ≡ false
          by_test false e = refl
          by_test true e =
              let m = started_one c e in
              let same : m.0 ≡ c = itself c m.0 there m.1 m.3 in
              let k : IsNew r.both.trace (done_trace r.both.trace d status) m.0 = new_one i names notes s r d status f m.0 m.1 in
              absurd (false≢true (sym k.barred ∙ ap (λ (x : Command). was_free x r.both.trace) same ∙ free))

      new : was_free c r.both.trace ≡ false → was_free c (done_trace r.both.trace d status) ≡ true → (contains r.told c.ticket ≡ false) × (now_told c ≡ not (is_held c))
      new barred free = (untold_before i names notes s r d status f c among, by_held (is_held c) refl)
        where
          among : In c (ns i names notes s r d status f)
          among = in_news i.outbox.session r.both.trace d status regular.units c at free barred

          by_held : (v : Bool) → is_held c ≡ v → now_told c ≡ not v
          by_held false e =
              list_any-map (λ k. k == c.ticket) (λ (m : Command). m.ticket) (starting_of (done_side i names notes s r d status f) (ns i names notes s r d status f))
              ∙ in_any (λ (m : Command). m.ticket == c.ticket) (starting_of (done_side i names notes s r d status f) (ns i names notes s r d status f)) c (filter-in (λ (m : Command). not (is_held m)) (ns i names notes s r d status f) c among (ap not e)) (eq-eqb c.ticket c.ticket refl)
          by_held true e = by_test (now_told c) refl
            where
              by_test : (v : Bool) → now_told c ≡ v → v ≡ false
              by_test false told = refl
              by_test true told =
                  let m = started_one c told in
                  let same : m.0 ≡ c = itself c m.0 there m.1 m.3 in
                  absurd (false≢true (sym m.2 ∙ ap is_held same ∙ e))

  -- ---- all

  abbrev was_held : Command → Bool
  was_held c = was_free c r.both.trace && not (contains r.told c.ticket)

  abbrev is_held_now : Command → Bool
  is_held_now c = was_free c (done_trace r.both.trace d status) && not (contains (side_after i names notes s r d status f).told c.ticket)

  turned : (c : Command) → (c.ticket == d.ticket) ≡ (d.ticket == c.ticket)
  turned c = by_test (d.ticket == c.ticket) refl
    where
      by_test : (v : Bool) → (d.ticket == c.ticket) ≡ v → (c.ticket == d.ticket) ≡ v
      by_test true is = eq-eqb c.ticket d.ticket (sym (eqb-true d.ticket c.ticket is))
      by_test false is = ne_eqb c.ticket d.ticket (λ same. false≢true (sym is ∙ eq-eqb d.ticket c.ticket (sym same)))

  -- those before, but for the one that completes
  count_before : (n : ℕ) → times n (tickets_of (filter (λ (c : Command). not (c.ticket == d.ticket)) (held_of r)))
      ≡ count_by (λ (c : Command). not (has (leaves_ticket c.ticket) r.both.trace) && (was_held c && (not (d.ticket == c.ticket) && c.ticket == n))) (entered r.both.trace)
  count_before n =
      count_by-map (λ (k : ℕ). k == n) (λ (c : Command). c.ticket) (filter (λ (c : Command). not (c.ticket == d.ticket)) (held_of r))
      ∙ count-filter (λ (c : Command). c.ticket == n) (λ (c : Command). not (c.ticket == d.ticket)) (held_of r)
      ∙ count-filter (λ (c : Command). not (c.ticket == d.ticket) && c.ticket == n) was_held (live r.both.trace)
      ∙ count-filter (λ (c : Command). was_held c && (not (c.ticket == d.ticket) && c.ticket == n)) (λ (c : Command). not (has (leaves_ticket c.ticket) r.both.trace)) (entered r.both.trace)
      ∙ count_members (λ (c : Command). not (has (leaves_ticket c.ticket) r.both.trace) && (was_held c && (not (c.ticket == d.ticket) && c.ticket == n)))
      (λ (c : Command). not (has (leaves_ticket c.ticket) r.both.trace) && (was_held c && (not (d.ticket == c.ticket) && c.ticket == n))) (entered r.both.trace)
      (λ c there. ap (λ v. not (has (leaves_ticket c.ticket) r.both.trace) && (was_held c && (not v && c.ticket == n))) (turned c))

  -- those that the item enables
  count_new : (n : ℕ) → times n (tickets_of (withheld_of (done_side i names notes s r d status f) (ns i names notes s r d status f)))
      ≡ count_by (λ (c : Command). not (has (leaves_ticket c.ticket) (done_trace r.both.trace d status)) && (is_new i.outbox.session r.both.trace d status c && (is_held c && c.ticket == n))) (entered r.both.trace)
  count_new n =
      count_by-map (λ (k : ℕ). k == n) (λ (c : Command). c.ticket) (withheld_of (done_side i names notes s r d status f) (ns i names notes s r d status f))
      ∙ count-filter (λ (c : Command). c.ticket == n) is_held (ns i names notes s r d status f)
      ∙ news_counted i.outbox.session r.both.trace d status regular.units (λ (c : Command). is_held c && c.ticket == n)
      ∙ count-filter (λ (c : Command). is_new i.outbox.session r.both.trace d status c && (is_held c && c.ticket == n)) (λ (c : Command). not (has (leaves_ticket c.ticket) (done_trace r.both.trace d status))) (entered (done_trace r.both.trace d status))
      ∙ ap (count_by (λ (c : Command). not (has (leaves_ticket c.ticket) (done_trace r.both.trace d status)) && (is_new i.outbox.session r.both.trace d status c && (is_held c && c.ticket == n)))) (entered_same r.both.trace d status)

  -- those that are withheld then
  count_now : (n : ℕ) → times n (tickets_of (held_of (side_after i names notes s r d status f)))
      ≡ count_by (λ (c : Command). not (has (leaves_ticket c.ticket) (done_trace r.both.trace d status)) && (is_held_now c && c.ticket == n)) (entered r.both.trace)
  count_now n =
      count_by-map (λ (k : ℕ). k == n) (λ (c : Command). c.ticket) (held_of (side_after i names notes s r d status f))
      ∙ count-filter (λ (c : Command). c.ticket == n) is_held_now (live (done_trace r.both.trace d status))
      ∙ count-filter (λ (c : Command). is_held_now c && c.ticket == n) (λ (c : Command). not (has (leaves_ticket c.ticket) (done_trace r.both.trace d status))) (entered (done_trace r.both.trace d status))
      ∙ ap (count_by (λ (c : Command). not (has (leaves_ticket c.ticket) (done_trace r.both.trace d status)) && (is_held_now c && c.ticket == n))) (entered_same r.both.trace d status)

  each : (n : ℕ) (c : Command) → In c (entered r.both.trace)
      → one (not (has (leaves_ticket c.ticket) (done_trace r.both.trace d status)) && (is_held_now c && c.ticket == n))
      ≡ one (not (has (leaves_ticket c.ticket) r.both.trace) && (was_held c && (not (d.ticket == c.ticket) && c.ticket == n)))
      + one (not (has (leaves_ticket c.ticket) (done_trace r.both.trace d status)) && (is_new i.outbox.session r.both.trace d status c && (is_held c && c.ticket == n)))
  each n c there =
      ap (λ v. one (not v && ((was_free c (done_trace r.both.trace d status) && not (contains (side_after i names notes s r d status f).told c.ticket)) && c.ticket == n))) (left_too r.both.trace d status c.ticket)
      ∙ ap (λ v. one (not ((d.ticket == c.ticket) || has (leaves_ticket c.ticket) r.both.trace) && ((was_free c (done_trace r.both.trace d status) && not v) && c.ticket == n)))
      (list_any-append (λ k. k == c.ticket) r.told (tickets_of (starting_of (done_side i names notes s r d status f) (ns i names notes s r d status f))))
      ∙ one_command_counts (d.ticket == c.ticket) (has (leaves_ticket c.ticket) r.both.trace) (was_free c r.both.trace) (was_free c (done_trace r.both.trace d status)) (contains r.told c.ticket) (now_told c) (is_held c) (c.ticket == n) (facts c there)
      ∙ ap (λ v. one (not (has (leaves_ticket c.ticket) r.both.trace) && (was_held c && (not (d.ticket == c.ticket) && c.ticket == n))) + one (not v && (is_new i.outbox.session r.both.trace d status c && (is_held c && c.ticket == n))))
      (sym (left_too r.both.trace d status c.ticket))

  up_now : (cs : List Command) → InOrder (λ (c e : Command). c.ticket < e.ticket) cs → GoUp (tickets_of (filter is_held_now (filter (λ (c : Command). not (has (leaves_ticket c.ticket) (done_trace r.both.trace d status))) cs)))
  up_now cs order = filtered_up is_held_now (λ (c : Command). not (has (leaves_ticket c.ticket) (done_trace r.both.trace d status))) cs order

  pub merged : all_inserted (tickets_of (withheld_of (done_side i names notes s r d status f) (ns i names notes s r d status f))) (tickets_of (filter (λ (c : Command). not (c.ticket == d.ticket)) (held_of r))) ≡ tickets_of (held_of (side_after i names notes s r d status f))
  merged =
      same_list (all_inserted held base) (tickets_of (held_of (side_after i names notes s r d status f)))
      (all_up held base (thrice_up (λ (c : Command). not (c.ticket == d.ticket)) was_held (λ (c : Command). not (has (leaves_ticket c.ticket) r.both.trace)) (entered r.both.trace) regular.ascending))
      (up_now (entered (done_trace r.both.trace d status)) (subst (InOrder (λ (c e : Command). c.ticket < e.ticket)) (sym (entered_same r.both.trace d status)) regular.ascending))
      (λ n.
      let split = count_sum (λ (c : Command). not (has (leaves_ticket c.ticket) (done_trace r.both.trace d status)) && (is_held_now c && c.ticket == n))
      (λ (c : Command). not (has (leaves_ticket c.ticket) r.both.trace) && (was_held c && (not (d.ticket == c.ticket) && c.ticket == n)))
      (λ (c : Command). not (has (leaves_ticket c.ticket) (done_trace r.both.trace d status)) && (is_new i.outbox.session r.both.trace d status c && (is_held c && c.ticket == n))) (entered r.both.trace) (each n) in
      omega (arith, all_more n held base, count_before n, count_new n, count_now n, split))
    where
      held : List ℕ
      held = tickets_of (withheld_of (done_side i names notes s r d status f) (ns i names notes s r d status f))

      base : List ℕ
      base = tickets_of (filter (λ (c : Command). not (c.ticket == d.ticket)) (held_of r))
