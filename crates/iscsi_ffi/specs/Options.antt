-- The options of a side, as C gives them, and what they say.
use Rattle.std.specs.Prelude.{◌≡◌, ℕ, ◌==◌, ◌&&◌, nat_le, Bool, List, length, map}
use Rattle.std.specs.List.{list_all}
use Rattle.iscsi_rules.specs.rules.Settings.{Setting, is_valid as is_valid_setting, is_within}
use Rattle.iscsi_ffi_rules.specs.rules.Calls.{Interface}
use Rattle.iscsi_ffi_desk.specs.declared.desk.opening.DeskOptions.{DeskOptions}
use Rattle.iscsi_ffi.specs.declared.options.PlainOptions.{PlainOptions}

-- a session's own StatSNs are those of its log alone
abbrev pub connection_of : ℕ → ℕ × ℕ
connection_of cid = (cid, 0)

abbrev pub setting_by : PlainOptions → List ℕ → Setting
setting_by o cids = record {
  first = o.first_cmd_sn;
  window = o.window;
  units = o.units;
  depth = o.depth;
  level = o.level;
  events = o.events;
  conns = map connection_of cids;
}

abbrev pub interface_of : PlainOptions → List ℕ → Interface
interface_of o cids = record {
  outbox = record { session = setting_by o cids; own = o.own; acknowledged = o.acknowledged == 1; shared = o.shared == 1 };
  unwritten = o.unwritten;
}

abbrev pub is_plain : PlainOptions → Bool
is_plain o = o.size == 48 && nat_le o.acknowledged 1 && nat_le o.shared 1 && list_all (λ (b : ℕ). b == 0) o.reserved

-- the options are of this version, and so many connections may be
abbrev pub fits : PlainOptions → ℕ → Bool
fits o conns = is_plain o && nat_le 1 conns && nat_le conns 64

-- every option is within its limits, and no CID stands twice
abbrev pub is_valid : PlainOptions → List ℕ → Bool
is_valid o cids = fits o (length cids) && (is_valid_setting (setting_by o cids) && (is_within o.own 1024 && is_within o.unwritten 1024))

-- they are those of the desk
pub record IsDeskOf (o : PlainOptions) (cids : List ℕ) (d : DeskOptions) : Type 0 where
  pub first : d.outbox.first ≡ o.first_cmd_sn
  pub window : d.outbox.window ≡ o.window
  pub units : d.outbox.units ≡ o.units
  pub own : d.outbox.own ≡ o.own
  pub acknowledged : d.outbox.acknowledged ≡ (o.acknowledged == 1)
  pub shared : d.outbox.shared ≡ (o.shared == 1)
  pub conns : d.outbox.conns.items ≡ cids
  pub unwritten : d.unwritten ≡ o.unwritten
