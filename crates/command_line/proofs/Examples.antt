-- Texts at the edges of the definitions.
use Rattle.std.proofs.Common.{◌≡◌, true, false, Some, None, refl}
use Rattle.std.specs.Prelude.{codes}
use Rattle.command_line.specs.Given.{is_value}
use Rattle.command_line.specs.Numbers.{number_of, is_address}

least : number_of 1 32 (codes "1") ≡ Some 1
least = refl

greatest : number_of 1 65536 (codes "65536") ≡ Some 65536
greatest = refl

none : number_of 1 32 (codes "0") ≡ None
none = refl

past : number_of 1 32 (codes "33") ≡ None
past = refl

leading_zero : number_of 1 10000 (codes "02") ≡ None
leading_zero = refl

signed : number_of 1 10000 (codes "+2") ≡ None
signed = refl

no_digits : number_of 1 10000 (codes "") ≡ None
no_digits = refl

home : is_address (codes "127.0.0.1:0") ≡ true
home = refl

widest : is_address (codes "255.255.255.255:65535") ≡ true
widest = refl

no_port : is_address (codes "127.0.0.1") ≡ false
no_port = refl

great_octet : is_address (codes "127.0.0.256:80") ≡ false
great_octet = refl

zero_octet : is_address (codes "127.0.0.01:80") ≡ false
zero_octet = refl

five_octets : is_address (codes "1.2.3.4.5:80") ≡ false
five_octets = refl

great_port : is_address (codes "1.2.3.4:65536") ≡ false
great_port = refl

two_colons : is_address (codes "1.2.3.4:80:80") ≡ false
two_colons = refl

hyphen : is_value (codes "-1") ≡ false
hyphen = refl
