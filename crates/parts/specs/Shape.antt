-- When a link, the links of a node, or a message are well formed among the first `count` nodes
-- (paper 01: in shape). Definitions only.
use Rattle.std.specs.Prelude.{ℕ, Bool, true, not, ◌&&◌, ◌||◌, ltb, Some, None}
use Rattle.parts.specs.declared.Status.{Status}
use Rattle.parts.specs.declared.Kind.{Kind}
use Rattle.parts.specs.declared.Kind.TheVariants.{SetR, SetRAck, SetRNak, SetL}
use Rattle.parts.specs.declared.Message.{Message}
use Rattle.parts.specs.Tests.{Seq, Link, is_out, is_in_or_del, linked, numbered}

-- R2.5: a link that is there names one of the first `count` nodes
abbrev pub link_fits : ℕ → Link → Bool
link_fits count None = true
link_fits count (Some n) = ltb n count

-- R2.5, R2.6: the links of a node are declared, and there unless it is out; its right number is
-- there while it is in or del
abbrev pub links_fit : ℕ → Status → Link → Link → Seq → Bool
links_fit count status left right rseq =
    (link_fits count left && link_fits count right)
    && ((is_out status || (linked left && linked right)) && (not (is_in_or_del status) || numbered rseq))

-- R2.5: what a kind's own fields name is declared
abbrev pub kind_fits : ℕ → Kind → Bool
kind_fits count (SetR new expected number) = ltb new count && ltb expected count
kind_fits count (SetRAck number) = true
kind_fits count SetRNak = true
kind_fits count (SetL left number) = ltb left count

-- R2.5: all that a message names is declared
unfoldable pub message_fits : ℕ → Message → Bool
message_fits count m = ltb m.sender count && (ltb m.to count && kind_fits count m.kind)
