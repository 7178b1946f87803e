-- The measure of each reader is what is unread: the item reader passes over an item, the list reader over a comma.
use Rattle.std.proofs.Common.{◌-◌, length}
use Rattle.ids.proofs.+read_item_read_list.Given as goal

abbrev pub decreases-read_item : goal.decreases-read_item
decreases-read_item l = length l.s.now - l.at

abbrev pub decreases-read_list : goal.decreases-read_list
decreases-read_list l = length l.s.now - l.at
