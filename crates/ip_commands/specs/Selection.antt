-- What was written of what operations select.
use Rattle.std.specs.Prelude.{◌≡◌, ℕ, ◌^◌, Bool, List, Option}
use Rattle.std.specs.Io.KnownBytes.{Appends}
use Rattle.range_set_blaze.specs.Runs.{Interval, members}
use Rattle.range_set_blaze.specs.Selection.{Agree, Selection}
use Rattle.ip_sets.specs.List.{has_bytes}
use Rattle.ip_commands.specs.Text.{IsSignedList, kept_v4, kept_v6}
use Rattle.ip_commands.specs.declared.request.Families.{Families}
use Rattle.ip_commands.specs.declared.request.Form.{Form}

-- Whether a text of the selected IPv4 and IPv6 addresses was written, with a sign before each line,
-- and whether it has a line.
pub record WritesSelected (some : Bool) (sign : List ℕ) (form : Form) (families : Families) (v4 v6 : Selection)
    (old new : Option (List ℕ)) : Type 0 where
  pub v4_runs : List Interval
  pub v6_runs : List Interval
  pub v4_made : Agree (2 ^ 32) (members v4_runs) v4
  pub v6_made : Agree (2 ^ 128) (members v6_runs) v6
  pub text : List ℕ
  pub whole : IsSignedList sign form (kept_v4 families v4_runs) (kept_v6 families v6_runs) text
  pub written : Appends old new text
  pub has_line : some ≡ has_bytes text
