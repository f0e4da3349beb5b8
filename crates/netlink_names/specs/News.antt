-- What messages tell of the names of links.
use Rattle.std.specs.Prelude.{List}
use Rattle.netlink_names.specs.Known.{with_name, without}
use Rattle.netlink_names.specs.declared.device.Known.{Known}
use Rattle.netlink_names.specs.declared.known.News.{News}
use Rattle.netlink_names.specs.declared.known.News.TheVariants as news

-- the names after this news
abbrev pub after_news : News → List Known → List Known
after_news (news.Named index name) known = with_name index name.now known
after_news (news.Deleted index) known = without index known
after_news news.Nothing known = known
