-- What has been delivered as the turns of the numbers below one are over: the requests of those numbers, in their order.
use Rattle.std.proofs.Common.{arith, ◌≡◌, ℕ, ◌+◌, ◌-◌, ◌<◌, ◌≤◌, ◌==◌, ◌||◌, cond, Bool, true, false, List, [], ◌∷◌, ◌++◌, Option, Some, None, option_map, refl, ap, sym, ◌∙◌, ⊎_elim, eq-eqb}
use Rattle.std.specs.List.{list_any, filter_map}
use Rattle.std.proofs.lemmas.Bool.{false≢true, cases_eq}
use Rattle.std.proofs.lemmas.Bool.Decides.{nat_tests}
use Rattle.std.proofs.lemmas.List.{append-nil}
use Rattle.iscsi_wire.specs.declared.request.Request.{Request}
use Rattle.iscsi_wire.specs.Serial.{number_of_first}
use Rattle.iscsi_rules.specs.rules.Settings.{Setting}
use Rattle.iscsi_rules.specs.rules.Trace.{Arrival, Mark, Trace, shown, admitted, delivers_number, is_delivered, is_emptied, held, is_received}
use Rattle.iscsi_rules.specs.rules.Execution.{exp_of}
use Rattle.iscsi_rules.specs.promises.Executed.{request_at, executed_below, delivers}
use Rattle.iscsi_rules.proofs.general.Missing.{expected_below}
use Rattle.iscsi_rules.proofs.traces.DeliveryLemmas.{executed_below-more, same_range}
use Rattle.iscsi_rules.proofs.traces.FateLemmas.{ItemAt, Touch, NotTouched, AdmitsNow, VoidsNow, EmptiesNow, DeliversNow, held-kept}
use Rattle.iscsi_rules.proofs.traces.HeldLemmas.{admitted_of_held, held_unemptied, held-number}

-- the requests of the numbers below n were delivered, and none of a number from n on
pub record DeliversBelow (o : Setting) (n : ℕ) (t : Trace) : Type 0 where
  pub all : shown delivers t ≡ executed_below o t n
  pub none : (k : ℕ) → n ≤ k → is_delivered t k ≡ false
  pub gone : (k : ℕ) → number_of_first o.first ≤ k → k < n → held t k ≡ None

-- ---- an item leaves the numbers below as they are

none_some : (b : Arrival) → None ≡ Some b → ⊥
none_some b h = cc

-- a number that is received, and at which nothing is held, isn't touched
untouched : (t : Trace) (n : ℕ) (item : List Mark) → is_received t n ≡ true → held t n ≡ None → Touch t n item → ItemAt n item false false false false []
untouched t n item there none (NotTouched i) = i
untouched t n item there none (AdmitsNow a new i) = absurd (false≢true (sym new ∙ there))
untouched t n item there none (VoidsNow new i) = absurd (false≢true (sym new ∙ there))
untouched t n item there none (EmptiesNow b is i) = absurd (none_some b (sym none ∙ is))
untouched t n item there none (DeliversNow b is i) = absurd (none_some b (sym none ∙ is))

request_kept : (t : Trace) (n : ℕ) (item : List Mark) → ItemAt n item false false false false [] → request_at (item ∷ t) n ≡ request_at t n
request_kept t n item i = grind (arith, i.emptied, i.admits, append-nil)

module _ (o : Setting) (n : ℕ) (t : Trace) (item : List Mark) (touches : (k : ℕ) → Touch t k item) (below : n ≤ exp_of o t) (d : DeliversBelow o n t) where
  kept : (k : ℕ) → number_of_first o.first ≤ k → k < n → ItemAt k item false false false false []
  kept k low high = untouched t k item (expected_below o.first t k low (omega (arith, high, below))) (d.gone k low high) (touches k)

  executed_kept : executed_below o (item ∷ t) n ≡ executed_below o t n
  executed_kept =
      same_range (item ∷ t) t (number_of_first o.first) (n - number_of_first o.first) (λ k low high. request_kept t k item (kept k low (omega (arith, low, high))))

  gone_kept : (k : ℕ) → number_of_first o.first ≤ k → k < n → held (item ∷ t) k ≡ None
  gone_kept k low high = let i = kept k low high in held-kept t k item i.emptied i.delivered i.admits ∙ d.gone k low high

  -- an item that delivers nothing
  pub delivers_quiet : filter_map delivers item ≡ [] → ((k : ℕ) → list_any (delivers_number k) item ≡ false) → DeliversBelow o n (item ∷ t)
  delivers_quiet none quiet = record {
    all = ap (λ rs. shown delivers t ++ rs) none ∙ append-nil (shown delivers t) ∙ d.all ∙ sym executed_kept;
    none = λ k past. ap (λ b. b || is_delivered t k) (quiet k) ∙ d.none k past;
    gone = gone_kept;
  }

  -- the request of the number itself has its turn
  pub delivers_turn : (a : Arrival) → held t n ≡ Some a → n < exp_of o t → number_of_first o.first ≤ n → filter_map delivers item ≡ a.request ∷ [] → ((k : ℕ) → list_any (delivers_number k) item ≡ (a.number == k)) → DeliversBelow o (n + 1) (item ∷ t)
  delivers_turn a there inside low one turn = record {
    all =
        ap (λ rs. shown delivers t ++ rs) one ∙ ap (λ rs. rs ++ a.request ∷ []) (d.all ∙ sym executed_kept)
        ∙ ap (λ x. executed_below o (item ∷ t) n ++ filter_map (λ (y : Option Request). y) (x ∷ [])) (sym request)
        ∙ sym (executed_below-more o (item ∷ t) n low);
    none = λ k past. ap (λ b. b || is_delivered t k) (turn k ∙ other k past) ∙ d.none k (omega (arith, past));
    gone = λ k first high. ⊎_elim (λ same. ap (held (item ∷ t)) same ∙ turned) (λ apart. gone_kept k first (omega (arith, high, apart))) (cases_eq k n);
  }
    where
      number : a.number ≡ n
      number = held-number t n a there

      delivered_now : list_any (delivers_number n) item ≡ true
      delivered_now = turn n ∙ eq-eqb a.number n number

      turned : held (item ∷ t) n ≡ None
      turned = ap (λ b. cond ((b || is_delivered t n) || is_emptied (item ∷ t) n) None (admitted (item ∷ t) n)) delivered_now

      other : (k : ℕ) → n + 1 ≤ k → (a.number == k) ≡ false
      other k past = grind (arith, nat_tests, number)

      -- what the item does to the number: it delivers it
      by_touch : Touch t n item → request_at (item ∷ t) n ≡ Some a.request
      by_touch (NotTouched i) = absurd (false≢true (sym i.delivered ∙ delivered_now))
      by_touch (AdmitsNow b new i) = absurd (false≢true (sym i.delivered ∙ delivered_now))
      by_touch (VoidsNow new i) = absurd (false≢true (sym i.delivered ∙ delivered_now))
      by_touch (EmptiesNow b is i) = absurd (false≢true (sym i.delivered ∙ delivered_now))
      by_touch (DeliversNow b is i) = grind (arith, i.emptied, i.admits, append-nil, held_unemptied t n a there, admitted_of_held t n a there)

      request : request_at (item ∷ t) n ≡ Some a.request
      request = by_touch (touches n)

-- a number below ExpCmdSN at which nothing is held had its turn
pub delivers_past : (o : Setting) (n : ℕ) (t : Trace) → DeliversBelow o n t → held t n ≡ None → number_of_first o.first ≤ n → DeliversBelow o (n + 1) t
delivers_past o n t d none low = record {
  all = d.all ∙ sym (append-nil (executed_below o t n)) ∙ ap (λ x. executed_below o t n ++ filter_map (λ (y : Option Request). y) (x ∷ [])) (sym unasked) ∙ sym (executed_below-more o t n low);
  none = λ k past. d.none k (omega (arith, past));
  gone = λ k first high. ⊎_elim (λ same. ap (held t) same ∙ none) (λ apart. d.gone k first (omega (arith, high, apart))) (cases_eq k n);
}
  where
    by_facts : (e : Bool) (x : Option Arrival) → is_emptied t n ≡ e → admitted t n ≡ x → request_at t n ≡ None
    by_facts true x emptied there = ap (λ b. cond b None (option_map (λ (a : Arrival). a.request) (admitted t n))) emptied
    by_facts false None emptied there = grind arith
    by_facts false (Some a) emptied there = absurd (none_some a (sym none ∙ (let z : held t n ≡ Some a = grind (arith, d.none n (omega arith)) in z)))

    unasked : request_at t n ≡ None
    unasked = by_facts (is_emptied t n) (admitted t n) refl refl
