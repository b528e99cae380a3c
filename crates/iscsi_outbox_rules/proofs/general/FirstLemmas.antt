-- The replies that enter an outbox: of each item the first, in order.
use Rattle.std.proofs.Common.{◌≡◌, ℕ, zero, suc, ◌+◌, List, [], ◌∷◌, ◌++◌, length, filter_map, Option, Some, None, refl, ap, sym, ◌∙◌, arith}
use Rattle.std.specs.List.{cons_option}
use Rattle.std.proofs.lemmas.List.{append_assoc, append-nil}
use Rattle.iscsi_rules.specs.declared.effect.Effect.{Effect}
use Rattle.iscsi_rules.specs.rules.Trace.{first_of}
use Rattle.iscsi_wire.specs.declared.reply.Reply.{Reply}
use Rattle.iscsi_outbox_rules.specs.rules.Items.{reply_sent}
use Rattle.iscsi_outbox_rules.specs.promises.Scope.{Sent, nth}

abbrev pub sent_as_first : List (List Effect) → List Effect → Option (ℕ × Reply) → Option Sent
sent_as_first before item None = None
sent_as_first before item (Some s) = Some (record { before = before; item = item; conn = s.0; reply = s.1 })

abbrev pub first_sent : List (List Effect) → List Effect → Option Sent
first_sent before item = sent_as_first before item (first_of (filter_map reply_sent item))

abbrev pub firsts_from : List (List Effect) → List (List Effect) → List Sent
firsts_from before [] = []
firsts_from before (item ∷ items) = cons_option (first_sent before item) (firsts_from (before ++ item ∷ []) items)

abbrev pub firsts : List (List Effect) → List Sent
firsts items = firsts_from [] items

pub cons_append : {A : Type 0} (x : Option A) (xs ys : List A) → cons_option x (xs ++ ys) ≡ cons_option x xs ++ ys
cons_append None xs ys = refl
cons_append (Some x) xs ys = refl

firsts_from-more : (before items : List (List Effect)) (item : List Effect) → firsts_from before (items ++ item ∷ []) ≡ firsts_from before items ++ cons_option (first_sent (before ++ items) item) []
firsts_from-more before [] item = ap (λ b. cons_option (first_sent b item) []) (sym (append-nil before))
firsts_from-more before (x ∷ items) item =
    ap (cons_option (first_sent before x)) (firsts_from-more (before ++ x ∷ []) items item ∙ ap (λ b. firsts_from (before ++ x ∷ []) items ++ cons_option (first_sent b item) []) (append_assoc before (x ∷ []) items))
    ∙ cons_append (first_sent before x) (firsts_from (before ++ x ∷ []) items) (cons_option (first_sent (before ++ x ∷ items) item) [])

pub firsts-more : (items : List (List Effect)) (item : List Effect) → firsts (items ++ item ∷ []) ≡ firsts items ++ cons_option (first_sent items item) []
firsts-more items item = firsts_from-more [] items item

-- those of more items are only more
pub firsts-append : (items more : List (List Effect)) → (rest : List Sent) × (firsts (items ++ more) ≡ firsts items ++ rest)
firsts-append items [] = ([], ap firsts (append-nil items) ∙ sym (append-nil (firsts items)))
firsts-append items (item ∷ more) =
    let later = firsts-append (items ++ item ∷ []) more in (
      cons_option (first_sent items item) [] ++ later.0,
      ap firsts (sym (append_assoc items (item ∷ []) more)) ∙ later.1 ∙ ap (λ ss. ss ++ later.0) (firsts-more items item) ∙ append_assoc (firsts items) (cons_option (first_sent items item) []) later.0,
    )

-- an item that sends nothing, and one that sends
pub firsts-none : (items : List (List Effect)) (item : List Effect) → first_of (filter_map reply_sent item) ≡ None → firsts (items ++ item ∷ []) ≡ firsts items
firsts-none items item none = firsts-more items item ∙ ap (λ x. firsts items ++ cons_option (sent_as_first items item x) []) none ∙ append-nil (firsts items)

pub firsts-some : (items : List (List Effect)) (item : List Effect) (conn : ℕ) (reply : Reply) → first_of (filter_map reply_sent item) ≡ Some (conn, reply)
    → firsts (items ++ item ∷ []) ≡ firsts items ++ record { before = items; item = item; conn = conn; reply = reply } ∷ []
firsts-some items item conn reply some = firsts-more items item ∙ ap (λ x. firsts items ++ cons_option (sent_as_first items item x) []) some

-- ---- places

pub nth-first : {A : Type 0} (n : ℕ) (xs ys : List A) (x : A) → nth n xs ≡ Some x → nth n (xs ++ ys) ≡ Some x
nth-first n [] ys x h = absurd cc
nth-first zero (y ∷ xs) ys x h = h
nth-first (suc n) (y ∷ xs) ys x h = nth-first n xs ys x h

pub nth-push : {A : Type 0} (xs : List A) (x : A) → nth (length xs) (xs ++ x ∷ []) ≡ Some x
nth-push [] x = refl
nth-push (y ∷ xs) x = nth-push xs x

pub length-push : {A : Type 0} (xs : List A) (x : A) → length (xs ++ x ∷ []) ≡ length xs + 1
length-push [] x = refl
length-push (y ∷ xs) x = let rest : length (xs ++ x ∷ []) ≡ length xs + 1 = length-push xs x in omega (arith, rest)
