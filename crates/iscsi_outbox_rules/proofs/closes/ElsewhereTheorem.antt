-- A connection that a reply on another one closes gives nothing behind it.
use Rattle.std.proofs.Common.{◌≡◌, ℕ, ⊎_elim, zero, suc, ◌==◌, ◌||◌, ◌&&◌, not, cond, Bool, true, false, List, [], ◌∷◌, ◌++◌, filter_map, Option, Some, None, refl, ap, sym, subst, ◌∙◌}
use Rattle.std.specs.List.{list_any, cons_option}
use Rattle.std.proofs.lemmas.Bool.{false≢true}
use Rattle.std.proofs.lemmas.List.{append_assoc}
use Rattle.iscsi_wire.specs.Fields.{connection_of}
use Rattle.iscsi_wire.specs.declared.reply.Reply.{Reply}
use Rattle.iscsi_wire.specs.declared.request.Request.{Request}
use Rattle.iscsi_rules.specs.declared.effect.Effect.{Effect}
use Rattle.iscsi_rules.specs.rules.Trace.{first_of}
use Rattle.iscsi_rules.proofs.general.BoolLemmas.{and_parts, and_both, or_none, or_second, not_true}
use Rattle.iscsi_outbox_rules.specs.rules.Calls.{Opening, Call}
use Rattle.iscsi_outbox_rules.specs.rules.Boxes.{Aim, Handed}
use Rattle.iscsi_outbox_rules.specs.rules.Items.{executing, reply_sent, aim}
use Rattle.iscsi_outbox_rules.specs.promises.Deeds.{Deed, deeds_of, items_in, handed_in_deed, FollowsSession}
use Rattle.iscsi_outbox_rules.specs.promises.Scope.{Sent, nth, sent_by, closes_in, is_closed_with, sent_as, says_closed}
use Rattle.iscsi_outbox_rules.proofs.general.DeedLemmas.{items_in-append}
use Rattle.iscsi_outbox_rules.proofs.general.FirstLemmas.{sent_as_first, firsts_from}
use Rattle.iscsi_outbox_rules.proofs.order.SentLemmas.{one_reply_before, sent_by-firsts}
use Rattle.iscsi_outbox_rules.proofs.order.PlaceRuns.{IsSent, IsOwn}
use Rattle.iscsi_outbox_rules.proofs.order.OnceTheorem.{Reply_moment, reply_moment}
use Rattle.iscsi_outbox_rules.proofs.closes.MarkRuns.{closes_as, by_another, is_closing, closed_by, cut_by, cut_by-more}
use Rattle.iscsi_outbox_rules.proofs.closes.MarkCalls.{none_where_cut}

-- what is sent while a request executes goes out on its connection
abbrev pub Fits : List (List Effect) → Type 0
Fits all = (before rest : List (List Effect)) (item : List Effect) (r : Request) (conn : ℕ) (reply : Reply)
    → before ++ item ∷ rest ≡ all → executing item ≡ Some r → first_of (filter_map reply_sent item) ≡ Some (conn, reply) → conn ≡ connection_of r

-- where a reply stands among the items
pub record At (items : List (List Effect)) (s : Sent) : Type 0 where
  pub rest : List (List Effect)
  pub whole : s.before ++ s.item ∷ rest ≡ items
  pub found : first_of (filter_map reply_sent s.item) ≡ Some (s.conn, s.reply)

some_sent : (x y : Sent) → Some x ≡ Some y → x ≡ y
some_sent x y h = cc

pub sent_at : (before items : List (List Effect)) (n : ℕ) (s : Sent) → nth n (firsts_from before items) ≡ Some s → At (before ++ items) s
sent_at before [] n s h = absurd cc
sent_at before (item ∷ items) n s h = by_sent (λ m k. sent_at (before ++ item ∷ []) items m s k) (first_of (filter_map reply_sent item)) refl n h
  where
    by_sent : ((m : ℕ) → nth m (firsts_from (before ++ item ∷ []) items) ≡ Some s → At ((before ++ item ∷ []) ++ items) s) → (x : Option (ℕ × Reply)) → first_of (filter_map reply_sent item) ≡ x
        → (m : ℕ) → nth m (cons_option (sent_as_first before item x) (firsts_from (before ++ item ∷ []) items)) ≡ Some s → At (before ++ item ∷ items) s
    by_sent later None is m k = subst (λ its. At its s) (append_assoc before (item ∷ []) items) (later m k)
    by_sent later (Some p) is zero k = subst (At (before ++ item ∷ items)) (some_sent (record { before = before; item = item; conn = p.0; reply = p.1 }) s k) (record { rest = items; whole = refl; found = is })
    by_sent later (Some p) is (suc m) k = subst (λ its. At its s) (append_assoc before (item ∷ []) items) (later m k)

pub cut_first : (items more : List (List Effect)) (c : ℕ) → cut_by items c ≡ true → cut_by (items ++ more) c ≡ true
cut_first [] more c cut = absurd (false≢true cut)
cut_first (item ∷ items) more c cut = by_test (is_closing c item) (cut_first items more c) cut
  where
    by_test : (v : Bool) → (cut_by items c ≡ true → cut_by (items ++ more) c ≡ true) → cond v (by_another c (executing item)) (cut_by items c) ≡ true → cond v (by_another c (executing item)) (cut_by (items ++ more) c) ≡ true
    by_test true later is = is
    by_test false later is = later is

pub unclosed : (items : List (List Effect)) (c : ℕ) → list_any (closes_in c) items ≡ false → closed_by items c ≡ false
unclosed [] c none = refl
unclosed (item ∷ items) c none =
    let parts = or_none (closes_in c item) (list_any (closes_in c) items) none in
    ap (λ v. v || closed_by items c) (closing (executing item) parts.0) ∙ unclosed items c parts.1
  where
    closing : (r : Option Request) → closes_in c item ≡ false → closes_as c r item ≡ false
    closing (Some r) is = is
    closing None is = refl

-- a reply that closes another connection than its own is of an item that cut it
cut_with : (o : Opening) (items : List (List Effect)) (s : Sent) (d : ℕ) → At items s → ((r : Request) → executing s.item ≡ Some r → s.conn ≡ connection_of r) → (d == s.conn) ≡ false → is_closed_with o s d ≡ true → cut_by items d ≡ true
cut_with o items s d stands fits apart closes = by_request (executing s.item) refl closes
  where
    says : Option Aim → Bool
    says x = elim x [ Some about ↦ closes_in d s.item && not (list_any (closes_in d) s.before) | None ↦ false ]

    said : (x : Option Aim) → says x ≡ true → (closes_in d s.item && not (list_any (closes_in d) s.before)) ≡ true
    said (Some about) is = is
    said None is = absurd (false≢true is)

    by_request : (r : Option Request) → executing s.item ≡ r → says (aim o r s.reply) ≡ true → cut_by items d ≡ true
    by_request None is closed = absurd (false≢true closed)
    by_request (Some q) is closed =
        let parts = and_parts (closes_in d s.item) (not (list_any (closes_in d) s.before)) (said (aim o (Some q) s.reply) closed) in
        let closing : is_closing d s.item ≡ true = ap (λ x. closes_as d x s.item) is ∙ parts.0 in
        let new : not (closed_by s.before d) ≡ true = ap (λ v. not v) (unclosed s.before d (not_true (list_any (closes_in d) s.before) parts.1)) in
        let another : by_another d (executing s.item) ≡ true = ap (by_another d) is ∙ ap (λ c. not (d == c)) (sym (fits q is)) ∙ ap (λ v. not v) apart in
        let now : cut_by (s.before ++ s.item ∷ []) d ≡ true =
        cut_by-more s.before s.item d
        ∙ or_second (cut_by s.before d) ((is_closing d s.item && not (closed_by s.before d)) && by_another d (executing s.item))
        (and_both (is_closing d s.item && not (closed_by s.before d)) (by_another d (executing s.item)) (and_both (is_closing d s.item) (not (closed_by s.before d)) closing new) another) in
        ap (λ its. cut_by its d) (sym (append_assoc s.before (s.item ∷ []) stands.rest ∙ stands.whole)) ∙ cut_first (s.before ++ s.item ∷ []) stands.rest d now

pub none_behind_elsewhere : (o : Opening) (calls : List Call) → FollowsSession o calls → Fits (items_in (deeds_of o calls))
    → (before between after : List Deed) (deed later : Deed) (c d : ℕ) (h g : Handed) → before ++ deed ∷ (between ++ later ∷ after) ≡ deeds_of o calls
    → handed_in_deed deed ≡ Some (c, h) → handed_in_deed later ≡ Some (d, g) → (d == c) ≡ false → says_closed o (items_in before) h.out d ≡ false
none_behind_elsewhere o calls follows fits before between after deed later c d h g whole shown shown_later apart = by_test (says_closed o items h.out d) refl
  where
    items : List (List Effect)
    items = items_in before

    since : List Deed
    since = before ++ deed ∷ between

    whole_since : since ++ later ∷ after ≡ deeds_of o calls
    whole_since = append_assoc before (deed ∷ between) (later ∷ after) ∙ whole

    says : Option Sent → Bool
    says x = elim x [ Some s ↦ is_closed_with o s d | None ↦ false ]

    moment : Reply_moment o before c h
    moment = reply_moment o calls before (between ++ later ∷ after) deed c h whole shown

    own : says_closed o items h.out d ≡ true → IsOwn h.out → ⊥
    own is k = false≢true (sym (ap (λ x. says (elim x [ Some place ↦ nth place (sent_by items) | None ↦ None ])) k.none) ∙ is)

    sent : says_closed o items h.out d ≡ true → IsSent items c h.out → ⊥
    sent is k =
        let as_sent : sent_as items h.out ≡ Some k.reply =
        ap (λ x. elim x [ Some place ↦ nth place (sent_by items) | None ↦ None ]) k.place_is
        ∙ ap (nth k.place) (sent_by-firsts items (one_reply_before o calls before (deed ∷ (between ++ later ∷ after)) whole follows)) ∙ k.nth_is in
        let stands : At items k.reply = sent_at [] items k.place k.reply k.nth_is in
        let rest : List (List Effect) = stands.rest ++ items_in (deed ∷ (between ++ later ∷ after)) in
        let all : k.reply.before ++ k.reply.item ∷ rest ≡ items_in (deeds_of o calls) =
        sym (append_assoc k.reply.before (k.reply.item ∷ stands.rest) (items_in (deed ∷ (between ++ later ∷ after)))) ∙ ap (λ its. its ++ items_in (deed ∷ (between ++ later ∷ after))) stands.whole
        ∙ sym (items_in-append before (deed ∷ (between ++ later ∷ after))) ∙ ap items_in whole in
        let cut : cut_by items d ≡ true =
        cut_with o items k.reply d stands (λ r executes. fits k.reply.before rest k.reply.item r k.reply.conn k.reply.reply all executes stands.found) (ap (λ n. d == n) k.conn_is ∙ apart) (sym (ap says as_sent) ∙ is) in
        false≢true
        (sym (none_where_cut o calls since after later d g whole_since shown_later) ∙ ap (λ its. cut_by its d) (items_in-append before (deed ∷ between)) ∙ cut_first items (items_in (deed ∷ between)) d cut)

    by_test : (v : Bool) → says_closed o items h.out d ≡ v → says_closed o items h.out d ≡ false
    by_test false is = is
    by_test true is = absurd (⊎_elim (sent is) (own is) moment.entry)
