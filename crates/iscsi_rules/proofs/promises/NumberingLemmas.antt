-- The StatSNs of each connection count its replies.
use Rattle.std.proofs.Common.{◌≡◌, ℕ, ◌+◌, ◌==◌, cond, List, [], ◌∷◌, ◌++◌, map, length, count_by, Option, Some, None, option_map, refl, ap, sym, ◌∙◌, arith}
use Rattle.std.specs.List.{filter_map, flat_map, range_with_len, cons_option}
use Rattle.std.proofs.lemmas.Bool.{eqb-true}
use Rattle.std.proofs.lemmas.List.{append-nil}
use Rattle.std.proofs.lemmas.List.FromFn.{length-map-range_with_len}
use Rattle.std.proofs.lemmas.List.Elements.{filter_map-append}
use Rattle.std.proofs.lemmas.List.Sums.{sum_by-append}
use Rattle.std.proofs.lemmas.Bool.Decides.{nat_tests}
use Rattle.iscsi_wire.specs.declared.reply.Reply.{Reply}
use Rattle.iscsi_wire.specs.Serial.{wire}
use Rattle.iscsi_wire.specs.Fields.{connection_of}
use Rattle.iscsi_rules.specs.declared.effect.Effect.TheVariants.{Enable}
use Rattle.iscsi_rules.specs.declared.event.Event.{Event}
use Rattle.iscsi_rules.specs.rules.Settings.{Setting}
use Rattle.iscsi_rules.specs.rules.Trace.{Command, Mark, Sends, Trace, shown, sent_on}
use Rattle.iscsi_rules.specs.rules.Run.{first_stat_sn, stat_sn_of, effects_of_mark, newly_enabled, effects_of_item, trace_of, run_of}
use Rattle.iscsi_rules.specs.promises.Enabling.{effects_so_far}
use Rattle.iscsi_rules.specs.promises.Numbering.{stat_sn_shown, stat_sns_on, CountsReplies}
use Rattle.iscsi_rules.proofs.traces.DeliveryLemmas.{range_more}
use Rattle.iscsi_rules.proofs.promises.MomentLemmas.{log_effects}
pub use Rattle.iscsi_rules.proofs.items.DeedLemmas.{to_list}
use Rattle.iscsi_rules.proofs.items.DeedLemmas.{views}
use Rattle.iscsi_rules.proofs.items.Forms.{Start, AtTurn, start_mark, if_some, marks_done, Form, Rejected, Completed, Executed, marks_of_form, HasForm, HaveForms}
use Rattle.iscsi_rules.proofs.items.FormRuns.{trace_has_forms}

-- ---- what marks show of one connection

-- the StatSN of a reply that goes out, if it goes out on the connection
abbrev sn_of_reply : Setting → Trace → ℕ → ℕ → Option ℕ
sn_of_reply o t conn c = cond (c == conn) (Some (stat_sn_of o t c)) None

sns_of_marks : (o : Setting) (t : Trace) (conn : ℕ) (ms : List Mark) → stat_sns_on conn (flat_map (effects_of_mark o t) ms) ≡ filter_map (sn_of_reply o t conn) (filter_map sent_on ms)
sns_of_marks o t conn [] = refl
sns_of_marks o t conn (Sends c reply ∷ ms) = ap (cons_option (cond (c == conn) (Some (stat_sn_of o t c)) None)) (sns_of_marks o t conn ms)
sns_of_marks o t conn (m ∷ ms) = sns_of_marks o t conn ms

sns_of_enables : (conn : ℕ) (cs : List Command) → stat_sns_on conn (map (λ (c : Command). Enable c.ticket c.unit) cs) ≡ []
sns_of_enables conn [] = refl
sns_of_enables conn (c ∷ cs) = sns_of_enables conn cs

sns_of_item : (o : Setting) (t : Trace) (conn : ℕ) (item : List Mark) → stat_sns_on conn (effects_of_item o t item) ≡ filter_map (sn_of_reply o t conn) (filter_map sent_on item)
sns_of_item o t conn item =
    grind (arith, nat_tests, filter_map-append, sns_of_enables conn (newly_enabled o t item), append-nil, sns_of_marks o t conn item)

-- ---- an item sends at most one reply

-- the connection on which an item of this form sends a reply
abbrev sender : Form → Option ℕ
sender (Rejected a) = Some (connection_of a.request)
sender (Completed c status) = Some (connection_of c.arrival.request)
sender (Executed start a d) = option_map (λ reply. connection_of a.request) d.reply
sender _ = None

pub unseen : {A B : Type 0} (view : Mark → Option B) (f : A → Mark) (x : Option A) → ((y : A) → view (f y) ≡ None) → filter_map view (if_some f x) ≡ []
unseen view f x none = grind arith

-- marks that show nothing
pub passed : {B : Type 0} (view : Mark → Option B) (xs ys : List Mark) → filter_map view xs ≡ [] → filter_map view (xs ++ ys) ≡ filter_map view ys
passed view xs ys none = filter_map-append view xs ys ∙ ap (λ zs. zs ++ filter_map view ys) none

sent_form : (form : Form) → filter_map sent_on (marks_of_form form) ≡ to_list (sender form)
sent_form (Executed start a d) = by_start start ∙ by_reply d.reply
  where
    by_start : (s : Start) → filter_map sent_on (start_mark s a ∷ marks_done a d) ≡ filter_map (λ reply. Some (connection_of a.request)) (to_list d.reply)
    by_start AtTurn = simp views
    by_start s = simp views

    by_reply : (x : Option Reply) → filter_map (λ reply. Some (connection_of a.request)) (to_list x) ≡ to_list (option_map (λ reply. connection_of a.request) x)
    by_reply x = grind (arith, nat_tests)
sent_form form = refl

-- ---- all items

-- how many replies went out on the connection
abbrev count_on : ℕ → Trace → ℕ
count_on conn t = count_by (λ k. k == conn) (shown sent_on t)

-- the numbers from the first StatSN on
abbrev counted_from : Setting → ℕ → ℕ → List ℕ
counted_from o conn n = map (λ k. wire (first_stat_sn o conn + k)) (range_with_len 0 n)

map_push : (f : ℕ → ℕ) (xs : List ℕ) (x : ℕ) → map f (xs ++ x ∷ []) ≡ map f xs ++ f x ∷ []
map_push f [] x = refl
map_push f (y ∷ xs) x = ap (λ ys. f y ∷ ys) (map_push f xs x)

counted_more : (o : Setting) (conn n : ℕ) → counted_from o conn (n + 1) ≡ counted_from o conn n ++ wire (first_stat_sn o conn + n) ∷ []
counted_more o conn n = grind (arith, range_more 0 n, map_push (λ j. wire (first_stat_sn o conn + j)) (range_with_len 0 n) (0 + n))

-- one item more
item_counts : (o : Setting) (t : Trace) (conn : ℕ) (item : List Mark) (x : Option ℕ) → filter_map sent_on item ≡ to_list x
    → stat_sns_on conn (effects_so_far o t) ≡ counted_from o conn (count_on conn t)
    → stat_sns_on conn (effects_so_far o (item ∷ t)) ≡ counted_from o conn (count_on conn (item ∷ t))
item_counts o t conn item x sent before =
    filter_map-append (stat_sn_shown conn) (effects_so_far o t) (effects_of_item o t item)
    ∙ ap (λ ns. ns ++ stat_sns_on conn (effects_of_item o t item)) before
    ∙ ap (λ ns. counted_from o conn (count_on conn t) ++ ns) (sns_of_item o t conn item ∙ ap (filter_map (sn_of_reply o t conn)) sent)
    ∙ by_sender x
    ∙ ap (counted_from o conn) (sym (sum_by-append (λ k. cond (k == conn) 1 0) (shown sent_on t) (filter_map sent_on item) ∙ ap (λ cs. count_on conn t + count_by (λ k. k == conn) cs) sent))
  where
    by_sender : (y : Option ℕ) → counted_from o conn (count_on conn t) ++ filter_map (sn_of_reply o t conn) (to_list y) ≡ counted_from o conn (count_on conn t + count_by (λ k. k == conn) (to_list y))
    by_sender y =
        grind (arith, nat_tests, append-nil (counted_from o conn (count_on conn t)), eqb-true, counted_more o conn (count_on conn t))

trace_counts : (o : Setting) (conn : ℕ) (t : Trace) (next : ℕ) → HaveForms o next t → stat_sns_on conn (effects_so_far o t) ≡ counted_from o conn (count_on conn t)
trace_counts o conn [] next x = refl
trace_counts o conn (item ∷ t) next x =
    let f : HasForm o x.0 t item = x.1.1.0 in
    item_counts o t conn item (sender f.form) (ap (filter_map sent_on) f.is ∙ sent_form f.form) (trace_counts o conn t _ x.1.1.1)

length-counted : (o : Setting) (conn n : ℕ) → length (counted_from o conn n) ≡ n
length-counted o conn n = length-map-range_with_len (λ k. wire (first_stat_sn o conn + k)) 0 n

-- so it is in the log of every list of events
pub counts_replies : (o : Setting) (h : List Event) → CountsReplies o (run_of o h)
counts_replies o h conn =
    grind (arith, nat_tests, log_effects o 0 [] h, trace_counts o conn (trace_of o h) (length h) (trace_has_forms o h), trace_has_forms o h, length-counted o conn (count_on conn (trace_of o h)))
