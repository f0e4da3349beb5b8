-- The names of links in a queue or in a list.
use Rattle.std.specs.Prelude.{List, Option, Some, None}
use Rattle.netlink_names.specs.declared.device.Known.{Known}

-- the names in a queue, if there is one, and else those in a list
abbrev pub names_in : Option (List Known) → List Known → List Known
names_in None list = list
names_in (Some queue) list = queue
