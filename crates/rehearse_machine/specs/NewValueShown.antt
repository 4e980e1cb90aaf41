-- What a setting makes of its variable, as the program says it.
use Rattle.device_list.specs.Called as says
use Rattle.rehearse_machine.specs.declared.new_value.NewValue.{NewValue}
use Rattle.rehearse_machine.specs.declared.new_value.NewValue.TheVariants as names

abbrev pub new_value_shown : NewValue → says.NewValue
new_value_shown (names.Value value) = says.Value value.now
new_value_shown (names.Copied name) = says.Copied name.now
new_value_shown names.Unset = says.Unset
