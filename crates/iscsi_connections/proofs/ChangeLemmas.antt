-- The connections, after one of them changed at the place of its CID.
use Rattle.std.proofs.Common.{None, [], ◌∷◌, ◌≡◌, ℕ, ◌+◌, ◌-◌, ◌%◌, ◌^◌, ◌<◌, ◌≤◌, ◌==◌, cond, List, length, map, get_or, set, position, Some, refl, ap, sym, ◌∙◌, arith}
use Rattle.std.proofs.lemmas.List.{get_or-map, get_or_default, length-map, map-set}
use Rattle.std.proofs.Math.Seq.{map-set_same}
use Rattle.std.proofs.lemmas.List.Quantifiers.{position-Some}
use Rattle.std.proofs.lemmas.Bool.Decides.{nat_tests}
use Rattle.iscsi_connections.specs.declared.connections.Connection.{Connection}
use Rattle.iscsi_connections.specs.Connected.{Connected, stat_sn_on, count_reply, counted_on}
use Rattle.iscsi_connections.specs.Placed.{cid_and_stat_sn, cids_of, connected}
use Rattle.iscsi_connections.proofs.PlaceLemmas.{has_cid}
use Rattle.iscsi_connections.proofs.CountLemmas.{count_reply-at, stat_sn_on-at, counted_place, counted_up, counted_down}
use Rattle.iscsi_connections.proofs.ViewLemmas.{open_set}

abbrev pub count_of : Connection → ℕ
count_of c = c.immediate

-- the connection as it was, with another StatSN or another count
abbrev pub numbered : Connection → ℕ → Connection
numbered c n = record { cid = c.cid; stat_sn = n; is_open = c.is_open; immediate = c.immediate }

abbrev pub counting : Connection → ℕ → Connection
counting c n = record { cid = c.cid; stat_sn = c.stat_sn; is_open = c.is_open; immediate = n }

module _ (list : List Connection) (cid k : ℕ) (found : position (has_cid cid) (map cid_and_stat_sn list) ≡ Some k) (read : Connection) (is : read ≡ get_or list k read) where
  long : length (map cid_and_stat_sn list) ≡ length list
  long = length-map list cid_and_stat_sn

  pub within : k < length list
  within = grind (arith, nat_tests, position-Some (has_cid cid) (map cid_and_stat_sn list) k (cid_and_stat_sn read) found, long)

  here : get_or (map cid_and_stat_sn list) k (cid_and_stat_sn read) ≡ cid_and_stat_sn read
  here = get_or-map cid_and_stat_sn list k read (cid_and_stat_sn read) within ∙ ap cid_and_stat_sn (sym is)

  -- ---- its StatSN is taken

  pub number_is : read.stat_sn < 2 ^ 32 → read.stat_sn ≡ stat_sn_on cid (map cid_and_stat_sn list)
  number_is fits = grind (arith, nat_tests, here, stat_sn_on-at (map cid_and_stat_sn list) cid k (cid_and_stat_sn read) found)

  conns_numbered : map cid_and_stat_sn (set list k (numbered read ((read.stat_sn + 1) % 4294967296))) ≡ count_reply cid (map cid_and_stat_sn list)
  conns_numbered = grind (arith, nat_tests, map-set, here, count_reply-at (map cid_and_stat_sn list) cid k (cid_and_stat_sn read) found)

  read_is : {A : Type 0} (f : Connection → A) (new : Connection) → f new ≡ f read → f new ≡ f (get_or list k new)
  read_is f new same = same ∙ ap f (is ∙ get_or_default list k read new within)

  pub view_numbered : connected (set list k (numbered read ((read.stat_sn + 1) % 4294967296))) ≡ (let old : Connected = connected list in record old { conns = count_reply cid old.conns })
  view_numbered =
      let new : Connection = numbered read ((read.stat_sn + 1) % 4294967296) in
      cc (conns_numbered, open_set list k new (read_is (λ c. c.cid) new refl) (read_is (λ c. c.is_open) new refl), map-set_same count_of list k new new (read_is count_of new refl))

  pub cids_numbered : cids_of (set list k (numbered read ((read.stat_sn + 1) % 4294967296))) ≡ cids_of list
  cids_numbered = grind (arith, nat_tests, map-set_same, read_is)

  -- ---- its immediate commands are counted

  counts_long : length (map count_of list) ≡ length (map cid_and_stat_sn list)
  counts_long = length-map list count_of ∙ sym long

  pub count_is : counted_on cid (map cid_and_stat_sn list) (map count_of list) ≡ read.immediate
  count_is = cc (counted_place (map cid_and_stat_sn list) (map count_of list) cid k found counts_long read.immediate, get_or-map count_of list k read read.immediate within)

  read_count : read.immediate ≡ get_or (map count_of list) k read.immediate
  read_count = ap count_of is ∙ sym (get_or-map count_of list k read read.immediate within)

  pub view_counting : (n : ℕ) → connected (set list k (counting read n)) ≡ (let old : Connected = connected list in record old { immediate = map count_of (set list k (counting read n)) })
  view_counting n =
      let new : Connection = counting read n in
      cc (map-set_same cid_and_stat_sn list k new new (read_is cid_and_stat_sn new refl), open_set list k new (read_is (λ c. c.cid) new refl) (read_is (λ c. c.is_open) new refl))

  pub cids_counting : (n : ℕ) → cids_of (set list k (counting read n)) ≡ cids_of list
  cids_counting n = map-set_same (λ (c : Connection). c.cid) list k (counting read n) (counting read n) (read_is (λ c. c.cid) (counting read n) refl)

  pub counting_up : (other : ℕ) → counted_on other (map cid_and_stat_sn list) (map count_of (set list k (counting read (read.immediate + 1)))) ≡ counted_on other (map cid_and_stat_sn list) (map count_of list) + cond (cid == other) 1 0
  counting_up other = cc (map-set count_of list k (counting read (read.immediate + 1)), counted_up (map cid_and_stat_sn list) (map count_of list) cid k found counts_long read.immediate other read_count)

  pub counting_down : (other : ℕ) → 1 ≤ read.immediate → counted_on other (map cid_and_stat_sn list) (map count_of (set list k (counting read (read.immediate - 1)))) + cond (cid == other) 1 0 ≡ counted_on other (map cid_and_stat_sn list) (map count_of list)
  counting_down other some =
      cc (map-set count_of list k (counting read (read.immediate - 1)), counted_down (map cid_and_stat_sn list) (map count_of list) cid k found counts_long read.immediate other read_count some)

-- ---- a CID of no connection

pub unknown_number : (conns : List (ℕ × ℕ)) (cid : ℕ) → position (has_cid cid) conns ≡ None → stat_sn_on cid conns ≡ 0
unknown_number [] cid none = refl
unknown_number (c ∷ conns) cid none = grind (arith, unknown_number conns cid)

pub unknown_count : (conns : List (ℕ × ℕ)) (cid : ℕ) → position (has_cid cid) conns ≡ None → count_reply cid conns ≡ conns
unknown_count [] cid none = refl
unknown_count (c ∷ conns) cid none = grind (arith, unknown_count conns cid)
