-- What the definitions mean, said once more in other words, holds of every trace.
use Rattle.std.proofs.Common.{arith, ◌≡◌, ℕ, ◌==◌, ◌&&◌, ◌||◌, not, Bool, true, false, List, [], ◌∷◌, length, ap, sym, ◌∙◌}
use Rattle.std.specs.List.{list_any, filter_map}
use Rattle.std.proofs.lemmas.Bool.{false≢true}
use Rattle.std.proofs.lemmas.List.Folds.{list_any-append}
use Rattle.std.proofs.lemmas.Bool.Decides.{nat_tests}
use Rattle.iscsi_rules.specs.declared.event.Event.{Event}
use Rattle.iscsi_rules.specs.rules.Settings.{Setting}
use Rattle.iscsi_rules.specs.rules.Trace.{Command, Trace, has, enters, entered, leaves_ticket, live, is_among}
use Rattle.iscsi_rules.specs.rules.Run.{trace_of}
use Rattle.iscsi_rules.specs.promises.Meaning.{MeansWhatItSays}
use Rattle.iscsi_rules.proofs.general.BoolLemmas.{or_first}
use Rattle.iscsi_rules.proofs.promises.MomentLemmas.{live_among}
use Rattle.iscsi_rules.proofs.general.Missing.{expected_low, expected_gone, expected_below}
use Rattle.iscsi_rules.proofs.items.Forms.{HasForm, HaveForms}
use Rattle.iscsi_rules.proofs.items.FormRuns.{trace_has_forms}
use Rattle.iscsi_rules.proofs.items.TouchLemmas.{leaving_live}
use Rattle.iscsi_rules.proofs.traces.FateLemmas.{fate, one_fate}

-- ---- commands that entered

-- nothing leaves that didn't enter
left_entered : (o : Setting) (k : ℕ) (t : Trace) (next : ℕ) → HaveForms o next t → has (leaves_ticket k) t ≡ true → is_among k (entered t) ≡ true
left_entered o k [] next x h = absurd (false≢true h)
left_entered o k (item ∷ t) next x h =
    let f : HasForm o x.0 t item = x.1.1.0 in
    list_any-append (λ (c : Command). c.ticket == k) (entered t) (filter_map enters item)
    ∙ or_first (is_among k (entered t)) (is_among k (filter_map enters item))
    (by_item (list_any (leaves_ticket k) item) (λ here. leaving_live o x.0 t f.form f.formed k (sym (ap (list_any (leaves_ticket k)) f.is) ∙ here)) (left_entered o k t _ x.1.1.1) h)
  where
    by_item : (v : Bool) → (v ≡ true → is_among k (live t) ≡ true) → (has (leaves_ticket k) t ≡ true → is_among k (entered t) ≡ true) → (v || has (leaves_ticket k) t) ≡ true → is_among k (entered t) ≡ true
    by_item v lives before h = grind (arith, live_among)

entered_parted : (a l : Bool) → (l ≡ true → a ≡ true) → a ≡ ((a && not l) || l)
entered_parted a l h = grind arith

live_apart : (a l : Bool) → ((a && not l) && l) ≡ false
live_apart a l = grind arith

-- for every list of events
pub means_what_it_says : (o : Setting) (h : List Event) → MeansWhatItSays o (trace_of o h)
means_what_it_says o h = record {
  expected = record {
    from_first = expected_low o.first (trace_of o h);
    missing = expected_gone o.first (trace_of o h);
    least = λ n low high. expected_below o.first (trace_of o h) n low high;
  };
  fates = λ n. one_fate (trace_of o h) n (fate o n (trace_of o h) (length h) (trace_has_forms o h));
  parted = λ k. grind (arith, nat_tests, entered_parted, left_entered, trace_has_forms o h, live_among);
  apart = λ k. ap (λ b. b && has (leaves_ticket k) (trace_of o h)) (live_among k (trace_of o h)) ∙ live_apart (is_among k (entered (trace_of o h))) (has (leaves_ticket k) (trace_of o h));
}
