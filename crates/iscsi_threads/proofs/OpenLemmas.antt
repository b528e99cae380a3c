-- A loop that was just opened.
use Rattle.std.specs.Prelude.{◌≡◌, ◌≢◌, ◌^◌, ℕ, zero, suc, ◌+◌, ◌<◌, ◌≤◌, ◌&&◌, not, true, false, nat_le, List, [], ◌∷◌, length, map, replicate, slice_index, refl}
use Rattle.std.specs.List.{range_with_len}
use Rattle.std.proofs.Common.{ap, sym, ◌∙◌, arith}
use Rattle.std.proofs.lemmas.Bool.Decides.{nat_tests}
use Rattle.std.proofs.lemmas.Bool.{false≢true}
use Rattle.iscsi_rules.proofs.general.BoolLemmas.{and_first, and_second, not_true}
use Rattle.iscsi_rules.specs.rules.Settings.{Setting, is_known, are_distinct, is_within, are_sizes_valid, is_valid}
use Rattle.iscsi_threads.specs.rules.Journal.{cids_in, parts, AllDiffer}
use Rattle.iscsi_threads.proofs.Turning.{known_at}

pub parts_none : (conns : List (ℕ × ℕ)) → replicate (length conns) [] ≡ parts (cids_in conns) []
parts_none [] = refl
parts_none (c ∷ conns) = ap (λ (l : List (List (List ℕ))). [] ∷ l) (parts_none conns)

pub range_none : {X : Type 0} (a n : ℕ) (x : X) → replicate n x ≡ map (λ u. x) (range_with_len a n)
range_none a zero x = refl
range_none {X} a (suc n) x = ap (λ (l : List X). x ∷ l) (range_none (a + 1) n x)

pub record Limits (o : Setting) : Type 0 where
  pub units : o.units ≤ 256
  pub conns : length o.conns ≤ 64
  pub distinct : are_distinct o.conns ≡ true

pub limits : (o : Setting) → is_valid o ≡ true → Limits o
limits o valid =
    let S = are_sizes_valid o in let E = is_within o.events (2 ^ 48) in let C = is_within (length o.conns) 64 in let D = are_distinct o.conns in
    let W = is_within o.window 1024 in let U = is_within o.units 256 in let P = is_within o.depth 1024 in let L = is_within o.level 2 in
    let front : (S && E) && C ≡ true = and_first ((S && E) && C) D valid in
    let sizes : ((W && U) && P) && L ≡ true = and_first S E (and_first (S && E) C front) in
    let unit : U ≡ true = and_second W U (and_first (W && U) P (and_first ((W && U) && P) L sizes)) in
    record {
      units = let h : nat_le o.units 256 ≡ true = and_second (nat_le 1 o.units) (nat_le o.units 256) unit in grind (arith, nat_tests);
      conns = let h : nat_le (length o.conns) 64 ≡ true = and_second (nat_le 1 (length o.conns)) (nat_le (length o.conns) 64) (and_second (S && E) C front) in grind (arith, nat_tests);
      distinct = and_second ((S && E) && C) D valid;
    }

unknown : (c : ℕ) (conns : List (ℕ × ℕ)) (k : ℕ) → is_known c conns ≡ false → k < length (cids_in conns) → c ≢ slice_index (cids_in conns) k
unknown c conns k unseen lt is = absurd (false≢true (sym unseen ∙ known_at conns k c lt is))

pub differ_of : (conns : List (ℕ × ℕ)) → are_distinct conns ≡ true → AllDiffer (cids_in conns)
differ_of [] h i k lt lt' ne = absurd (omega arith)
differ_of (c ∷ conns) h zero zero lt lt' ne = absurd (ne refl)
differ_of (c ∷ conns) h zero (suc k) lt lt' ne = λ e. unknown c.0 conns k (not_true (is_known c.0 conns) (and_first (not (is_known c.0 conns)) _ h)) (omega arith) (sym e)
differ_of (c ∷ conns) h (suc i) zero lt lt' ne = λ e. unknown c.0 conns i (not_true (is_known c.0 conns) (and_first (not (is_known c.0 conns)) _ h)) (omega arith) e
differ_of (c ∷ conns) h (suc i) (suc k) lt lt' ne = differ_of conns (and_second (not (is_known c.0 conns)) _ h) i k (omega arith) (omega arith) (λ e. ne (ap suc e))
