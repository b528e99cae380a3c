-- The options of a session, and their limits.
use Rattle.iscsi_session.specs.declared.options.Options.{Options}
use Rattle.iscsi_rules.specs.rules.Settings.{Setting}

abbrev pub setting_of : Options → Setting
setting_of o = record {
  first = o.first;
  window = o.window;
  units = o.units;
  depth = o.depth;
  level = o.level;
  events = o.events;
  conns = o.conns.items;
}
