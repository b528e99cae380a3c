-- The trace in which connections are closed, one after the other: the same is held, and no function waits on these.
use Rattle.std.proofs.Common.{◌≡◌, ℕ, ◌==◌, ◌||◌, not, cond, true, false, List, [], ◌∷◌, filter, None, inl, refl, ap, sym, ◌∙◌}
use Rattle.std.proofs.lemmas.Bool.{false≢true}
use Rattle.std.proofs.lemmas.List.{append-nil}
use Rattle.iscsi_wire.specs.Fields.{connection_of}
use Rattle.iscsi_rules.specs.rules.Trace.{Arrival, ClosesConn, Trace, admits_at, first_of, held, is_delivered, is_emptied, shown, waiting}
use Rattle.iscsi_rules.proofs.traces.ApartLemmas.{eq_sym}
use Rattle.iscsi_rules.proofs.general.BoolLemmas.{not_true}
use Rattle.iscsi_rules.proofs.general.ElementLemmas.{In, in-filter}
use Rattle.iscsi_outbox_rules.specs.rules.Words.{contains}
use Rattle.iscsi_outbox_law.specs.private.Pairs.{EachOf}
use Rattle.iscsi_ffi_rules.specs.rules.Needs.{admitted_by}
use Rattle.iscsi_ffi_law.proofs.general.Members.{each_in}

abbrev pub closes_each : List ℕ → Trace → Trace
closes_each [] t = t
closes_each (conn ∷ conns) t = closes_each conns ((ClosesConn conn ∷ []) ∷ t)

-- those that wait on none of these
abbrev pub waiting_off : List ℕ → List Arrival → List Arrival
waiting_off [] ws = ws
waiting_off (conn ∷ conns) ws = waiting_off conns (filter (λ (b : Arrival). not (connection_of b.request == conn)) ws)

pub closes_admitted : (conns : List ℕ) (t : Trace) → shown admitted_by (closes_each conns t) ≡ shown admitted_by t
closes_admitted [] t = refl
closes_admitted (conn ∷ conns) t = closes_admitted conns ((ClosesConn conn ∷ []) ∷ t) ∙ append-nil (shown admitted_by t)

pub closes_held : (conns : List ℕ) (t : Trace) (n : ℕ) → held (closes_each conns t) n ≡ held t n
closes_held [] t n = refl
closes_held (conn ∷ conns) t n =
    closes_held conns ((ClosesConn conn ∷ []) ∷ t) n ∙ ap (λ (xs : List Arrival). cond (is_delivered t n || is_emptied t n) None (first_of xs)) (append-nil (shown (admits_at n) t))

pub closes_waits : (conns : List ℕ) (t : Trace) → waiting (closes_each conns t) ≡ waiting_off conns (waiting t)
closes_waits [] t = refl
closes_waits (conn ∷ conns) t = closes_waits conns ((ClosesConn conn ∷ []) ∷ t)

off_in : (conns : List ℕ) (ws : List Arrival) (b : Arrival) → In b (waiting_off conns ws) → In b ws × (contains conns (connection_of b.request) ≡ false)
off_in [] ws b there = (there, refl)
off_in (conn ∷ conns) ws b there =
    let later = off_in conns (filter (λ (x : Arrival). not (connection_of x.request == conn)) ws) b there in
    let here = in-filter (λ (x : Arrival). not (connection_of x.request == conn)) ws b later.0 in
    (here.0, ap (λ v. v || contains conns (connection_of b.request)) (eq_sym conn (connection_of b.request) ∙ not_true (connection_of b.request == conn) here.1) ∙ later.1)

-- none, where all wait on these
pub none_off : (conns : List ℕ) (ws : List Arrival) → EachOf (λ (b : Arrival). contains conns (connection_of b.request) ≡ true) ws → waiting_off conns ws ≡ []
none_off conns ws each = by_list (waiting_off conns ws) (off_in conns ws)
  where
    by_list : (xs : List Arrival) → ((b : Arrival) → In b xs → In b ws × (contains conns (connection_of b.request) ≡ false)) → xs ≡ []
    by_list [] all = refl
    by_list (b ∷ xs) all = let k = all b (inl refl) in absurd (false≢true (sym k.1 ∙ each_in (λ (x : Arrival). contains conns (connection_of x.request) ≡ true) ws b k.0 each))
