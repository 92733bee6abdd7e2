-- The code's Option as the rules' and back.
use Rattle.std.specs.Prelude.{Option, None, Some}
use Rattle.std.proofs.Math.Option.{Option as RuleOption, none, some}

abbrev pub to_rules : {A : Type 0} → Option A → RuleOption A
to_rules None = none
to_rules (Some x) = some x

abbrev pub to_code : {A : Type 0} → RuleOption A → Option A
to_code none = None
to_code (some x) = Some x
