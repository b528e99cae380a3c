-- The limits of settings.
use Rattle.std.specs.Prelude.{◌&&◌, Bool}
use Rattle.iscsi_rules.specs.rules.Settings.{is_within}
use Rattle.iscsi_settings.specs.declared.settings.Settings.{Settings}

-- every setting is within its limits
abbrev pub are_valid : Settings → Bool
are_valid s = is_within s.window 1024 && is_within s.units 256 && is_within s.depth 1024 && is_within s.level 2
