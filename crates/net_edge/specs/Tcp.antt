-- What a link over TCP holds back of the bytes that it took.
use Rattle.std.specs.Prelude.{◌≡◌, ℕ, ◌-◌, ◌≤◌, List, [], length, take, drop, Option, None, Some, ⊤}
use Rattle.links.specs.declared.link.LinkWrite.{LinkWrite}
use Rattle.links.specs.declared.link.LinkWrite.TheVariants as write
use Rattle.net_edge.specs.declared.sockets.Socket.{Socket}
use Rattle.net_edge.specs.declared.tcp_links.TcpLink.{TcpLink}

abbrev pub gathered_by : Option Socket → List ℕ
gathered_by None = []
gathered_by (Some socket) = socket.gathered

-- the bytes taken that aren't written yet; a closed link has none
abbrev pub gathered : TcpLink → List ℕ
gathered link = gathered_by link.socket

-- the one list ends with the other
abbrev pub EndsWith : {X : Type 0} → (whole part : List X) → Type 0
EndsWith whole part = (length part ≤ length whole) × (drop (length whole - length part) whole ≡ part)

-- what is gathered ends with the bytes taken
abbrev pub Gathers : LinkWrite → (from gathered : List ℕ) → Type 0
Gathers (write.Took n) from gathered = EndsWith gathered (take n from)
Gathers write.NotReady from gathered = ⊤
Gathers write.Failed from gathered = ⊤
