-- Worked calls of `boots` with changes and with what is expected, computed.
use Rattle.std.proofs.Common.{refl, [], ◌∷◌, Some, None, codes}
use Rattle.clap.proofs.OnLiterals.{clap_on_literals}
use Rattle.envimage.specs.declared.image.ByteOrder.TheVariants.{Little}
use Rattle.tool_words.specs.declared.ask.OriginError.TheVariants.{SecondNeedsImage}
use Rattle.tool_words.specs.Asked.{bad_value, booting, misnamed, needs_ending, needs_expect}
use Rattle.tool_words.specs.CommandLine.{ubtool}
use Rattle.tool_words.proofs.CommandLineExamples.{AsksFor, IsRefused, IsUnread, usual_list}
use Rattle.tool_words.proofs.BootsExamples.{usual}

-- boots -d d --then t
with_changes : AsksFor (codes "boots" ∷ codes "-d" ∷ codes "d" ∷ codes "--then" ∷ codes "t" ∷ [])
    (booting usual_list (record usual { changes = Some (codes "t") }) Little)
unfolding clap_on_literals ubtool
with_changes = (refl, refl)

-- boots -d d --expect boot
expecting : AsksFor (codes "boots" ∷ codes "-d" ∷ codes "d" ∷ codes "--expect" ∷ codes "boot" ∷ [])
    (booting usual_list (record usual { expected = Some (record { ending = codes "boot"; within = None; values = [] }) }) Little)
unfolding clap_on_literals ubtool
expecting = (refl, refl)

-- boots -d d --expect boot --within 1
within_one : AsksFor (codes "boots" ∷ codes "-d" ∷ codes "d" ∷ codes "--expect" ∷ codes "boot" ∷ codes "--within" ∷ codes "1" ∷ [])
    (booting usual_list (record usual { expected = Some (record { ending = codes "boot"; within = Some 1; values = [] }) }) Little)
unfolding clap_on_literals ubtool
within_one = (refl, refl)

-- boots -d d --expect boot --within 4294967295
within_most : AsksFor (codes "boots" ∷ codes "-d" ∷ codes "d" ∷ codes "--expect" ∷ codes "boot" ∷ codes "--within" ∷ codes "4294967295" ∷ [])
    (booting usual_list (record usual { expected = Some (record { ending = codes "boot"; within = Some 4294967295; values = [] }) }) Little)
unfolding clap_on_literals ubtool
within_most = (refl, refl)

-- boots -d d --expect boot --expect-var a=1
value_expected : AsksFor (codes "boots" ∷ codes "-d" ∷ codes "d" ∷ codes "--expect" ∷ codes "boot" ∷ codes "--expect-var" ∷ codes "a=1" ∷ [])
    (booting usual_list (record usual { names = codes "a" ∷ []; expected = Some (record { ending = codes "boot"; within = None; values = (codes "a", codes "1") ∷ [] }) }) Little)
unfolding clap_on_literals ubtool
value_expected = (refl, refl)

-- boots -d d --expect boot --expect-var=a=1
value_attached : AsksFor (codes "boots" ∷ codes "-d" ∷ codes "d" ∷ codes "--expect" ∷ codes "boot" ∷ codes "--expect-var=a=1" ∷ [])
    (booting usual_list (record usual { names = codes "a" ∷ []; expected = Some (record { ending = codes "boot"; within = None; values = (codes "a", codes "1") ∷ [] }) }) Little)
unfolding clap_on_literals ubtool
value_attached = (refl, refl)

-- boots -d d --expect boot --expect-var a=b=c
two_equals : AsksFor (codes "boots" ∷ codes "-d" ∷ codes "d" ∷ codes "--expect" ∷ codes "boot" ∷ codes "--expect-var" ∷ codes "a=b=c" ∷ [])
    (booting usual_list (record usual { names = codes "a" ∷ []; expected = Some (record { ending = codes "boot"; within = None; values = (codes "a", codes "b=c") ∷ [] }) }) Little)
unfolding clap_on_literals ubtool
two_equals = (refl, refl)

-- boots -d d --expect boot --expect-var a==
equals_alone_in_value : AsksFor (codes "boots" ∷ codes "-d" ∷ codes "d" ∷ codes "--expect" ∷ codes "boot" ∷ codes "--expect-var" ∷ codes "a==" ∷ [])
    (booting usual_list (record usual { names = codes "a" ∷ []; expected = Some (record { ending = codes "boot"; within = None; values = (codes "a", codes "=") ∷ [] }) }) Little)
unfolding clap_on_literals ubtool
equals_alone_in_value = (refl, refl)

-- boots -d d --expect boot --expect-var a=
value_empty : AsksFor (codes "boots" ∷ codes "-d" ∷ codes "d" ∷ codes "--expect" ∷ codes "boot" ∷ codes "--expect-var" ∷ codes "a=" ∷ [])
    (booting usual_list (record usual { names = codes "a" ∷ []; expected = Some (record { ending = codes "boot"; within = None; values = (codes "a", codes "") ∷ [] }) }) Little)
unfolding clap_on_literals ubtool
value_empty = (refl, refl)

-- boots -d d --expect boot --expect-var b=1 --expect-var a=2
values_in_order : AsksFor (codes "boots" ∷ codes "-d" ∷ codes "d" ∷ codes "--expect" ∷ codes "boot" ∷ codes "--expect-var" ∷ codes "b=1" ∷ codes "--expect-var" ∷ codes "a=2" ∷ [])
    (booting usual_list (record usual { names = codes "b" ∷ codes "a" ∷ []; expected = Some (record { ending = codes "boot"; within = None; values = (codes "b", codes "1") ∷ (codes "a", codes "2") ∷ [] }) }) Little)
unfolding clap_on_literals ubtool
values_in_order = (refl, refl)

-- boots -d d --expect boot --expect-var a=1 --expect-var a=2
name_expected_twice : AsksFor (codes "boots" ∷ codes "-d" ∷ codes "d" ∷ codes "--expect" ∷ codes "boot" ∷ codes "--expect-var" ∷ codes "a=1" ∷ codes "--expect-var" ∷ codes "a=2" ∷ [])
    (booting usual_list (record usual { names = codes "a" ∷ []; expected = Some (record { ending = codes "boot"; within = None; values = (codes "a", codes "1") ∷ (codes "a", codes "2") ∷ [] }) }) Little)
unfolding clap_on_literals ubtool
name_expected_twice = (refl, refl)

-- boots -d d --expect boot --expect-var a=1 --expect-var c=2 b a
name_given_too : AsksFor (codes "boots" ∷ codes "-d" ∷ codes "d" ∷ codes "--expect" ∷ codes "boot" ∷ codes "--expect-var" ∷ codes "a=1" ∷ codes "--expect-var" ∷ codes "c=2" ∷ codes "b" ∷ codes "a" ∷ [])
    (booting usual_list (record usual { names = codes "b" ∷ codes "a" ∷ codes "c" ∷ []; expected = Some (record { ending = codes "boot"; within = None; values = (codes "a", codes "1") ∷ (codes "c", codes "2") ∷ [] }) }) Little)
unfolding clap_on_literals ubtool
name_given_too = (refl, refl)

-- boots -d d --expect boot --expect-var a=1 b b
name_given_twice : AsksFor (codes "boots" ∷ codes "-d" ∷ codes "d" ∷ codes "--expect" ∷ codes "boot" ∷ codes "--expect-var" ∷ codes "a=1" ∷ codes "b" ∷ codes "b" ∷ [])
    (booting usual_list (record usual { names = codes "b" ∷ codes "b" ∷ codes "a" ∷ []; expected = Some (record { ending = codes "boot"; within = None; values = (codes "a", codes "1") ∷ [] }) }) Little)
unfolding clap_on_literals ubtool
name_given_twice = (refl, refl)

-- boots -d d --expect boot --expect-var ab=1 a
longer_name : AsksFor (codes "boots" ∷ codes "-d" ∷ codes "d" ∷ codes "--expect" ∷ codes "boot" ∷ codes "--expect-var" ∷ codes "ab=1" ∷ codes "a" ∷ [])
    (booting usual_list (record usual { names = codes "a" ∷ codes "ab" ∷ []; expected = Some (record { ending = codes "boot"; within = None; values = (codes "ab", codes "1") ∷ [] }) }) Little)
unfolding clap_on_literals ubtool
longer_name = (refl, refl)

-- boots -d d --within 2
within_alone : AsksFor (codes "boots" ∷ codes "-d" ∷ codes "d" ∷ codes "--within" ∷ codes "2" ∷ [])
    needs_expect
unfolding clap_on_literals ubtool
within_alone = (refl, refl)

-- boots -d d --expect-var a=1
value_alone : AsksFor (codes "boots" ∷ codes "-d" ∷ codes "d" ∷ codes "--expect-var" ∷ codes "a=1" ∷ [])
    needs_expect
unfolding clap_on_literals ubtool
value_alone = (refl, refl)

-- boots -d d --expect-var a
nameless_value_alone : AsksFor (codes "boots" ∷ codes "-d" ∷ codes "d" ∷ codes "--expect-var" ∷ codes "a" ∷ [])
    needs_expect
unfolding clap_on_literals ubtool
nameless_value_alone = (refl, refl)

-- boots -d d --expect ''
ending_empty : AsksFor (codes "boots" ∷ codes "-d" ∷ codes "d" ∷ codes "--expect" ∷ codes "" ∷ [])
    needs_ending
unfolding clap_on_literals ubtool
ending_empty = (refl, refl)

-- boots -d d --expect '' --expect-var a
ending_empty_beside_value : AsksFor (codes "boots" ∷ codes "-d" ∷ codes "d" ∷ codes "--expect" ∷ codes "" ∷ codes "--expect-var" ∷ codes "a" ∷ [])
    needs_ending
unfolding clap_on_literals ubtool
ending_empty_beside_value = (refl, refl)

-- boots -d d --expect boot --expect-var a
without_equals : AsksFor (codes "boots" ∷ codes "-d" ∷ codes "d" ∷ codes "--expect" ∷ codes "boot" ∷ codes "--expect-var" ∷ codes "a" ∷ [])
    bad_value
unfolding clap_on_literals ubtool
without_equals = (refl, refl)

-- boots -d d --expect boot --expect-var ''
value_word_empty : AsksFor (codes "boots" ∷ codes "-d" ∷ codes "d" ∷ codes "--expect" ∷ codes "boot" ∷ codes "--expect-var" ∷ codes "" ∷ [])
    bad_value
unfolding clap_on_literals ubtool
value_word_empty = (refl, refl)

-- boots -d d --expect boot --expect-var =1
without_name : AsksFor (codes "boots" ∷ codes "-d" ∷ codes "d" ∷ codes "--expect" ∷ codes "boot" ∷ codes "--expect-var" ∷ codes "=1" ∷ [])
    bad_value
unfolding clap_on_literals ubtool
without_name = (refl, refl)

-- boots -d d --expect boot --expect-var a=1 --expect-var b
second_without_equals : AsksFor (codes "boots" ∷ codes "-d" ∷ codes "d" ∷ codes "--expect" ∷ codes "boot" ∷ codes "--expect-var" ∷ codes "a=1" ∷ codes "--expect-var" ∷ codes "b" ∷ [])
    bad_value
unfolding clap_on_literals ubtool
second_without_equals = (refl, refl)

-- boots -d d --expect boot --expect-var b --expect-var a=1
first_without_equals : AsksFor (codes "boots" ∷ codes "-d" ∷ codes "d" ∷ codes "--expect" ∷ codes "boot" ∷ codes "--expect-var" ∷ codes "b" ∷ codes "--expect-var" ∷ codes "a=1" ∷ [])
    bad_value
unfolding clap_on_literals ubtool
first_without_equals = (refl, refl)

-- boots -d d --within 2 --second g
within_alone_before_images : AsksFor (codes "boots" ∷ codes "-d" ∷ codes "d" ∷ codes "--within" ∷ codes "2" ∷ codes "--second" ∷ codes "g" ∷ [])
    needs_expect
unfolding clap_on_literals ubtool
within_alone_before_images = (refl, refl)

-- boots -d d --expect boot --second g
expecting_without_image : AsksFor (codes "boots" ∷ codes "-d" ∷ codes "d" ∷ codes "--expect" ∷ codes "boot" ∷ codes "--second" ∷ codes "g" ∷ [])
    (misnamed SecondNeedsImage)
unfolding clap_on_literals ubtool
expecting_without_image = (refl, refl)

-- boots -d d --expect boot --within +1
signed_within : IsUnread (codes "boots" ∷ codes "-d" ∷ codes "d" ∷ codes "--expect" ∷ codes "boot" ∷ codes "--within" ∷ codes "+1" ∷ [])
unfolding clap_on_literals ubtool
signed_within = (refl, refl)

-- boots -d d --within +1
signed_within_alone : IsUnread (codes "boots" ∷ codes "-d" ∷ codes "d" ∷ codes "--within" ∷ codes "+1" ∷ [])
unfolding clap_on_literals ubtool
signed_within_alone = (refl, refl)

-- boots -d d --boots +1 --expect ''
signed_boots_before_ending : IsUnread (codes "boots" ∷ codes "-d" ∷ codes "d" ∷ codes "--boots" ∷ codes "+1" ∷ codes "--expect" ∷ codes "" ∷ [])
unfolding clap_on_literals ubtool
signed_boots_before_ending = (refl, refl)

-- boots -d d --expect boot --within 0
within_none : IsRefused (codes "boots" ∷ codes "-d" ∷ codes "d" ∷ codes "--expect" ∷ codes "boot" ∷ codes "--within" ∷ codes "0" ∷ [])
unfolding clap_on_literals ubtool
within_none = refl

-- boots -d d --expect boot --within 4294967296
within_too_many : IsRefused (codes "boots" ∷ codes "-d" ∷ codes "d" ∷ codes "--expect" ∷ codes "boot" ∷ codes "--within" ∷ codes "4294967296" ∷ [])
unfolding clap_on_literals ubtool
within_too_many = refl

-- boots -d d --expect a --expect b
expect_twice : IsRefused (codes "boots" ∷ codes "-d" ∷ codes "d" ∷ codes "--expect" ∷ codes "a" ∷ codes "--expect" ∷ codes "b" ∷ [])
unfolding clap_on_literals ubtool
expect_twice = refl

-- boots -d d --then a --then b
then_twice : IsRefused (codes "boots" ∷ codes "-d" ∷ codes "d" ∷ codes "--then" ∷ codes "a" ∷ codes "--then" ∷ codes "b" ∷ [])
unfolding clap_on_literals ubtool
then_twice = refl

-- boots -d d --expect a --within 1 --within 1
within_twice : IsRefused (codes "boots" ∷ codes "-d" ∷ codes "d" ∷ codes "--expect" ∷ codes "a" ∷ codes "--within" ∷ codes "1" ∷ codes "--within" ∷ codes "1" ∷ [])
unfolding clap_on_literals ubtool
within_twice = refl

-- endings -d d --then t
endings_then : IsRefused (codes "endings" ∷ codes "-d" ∷ codes "d" ∷ codes "--then" ∷ codes "t" ∷ [])
unfolding clap_on_literals ubtool
endings_then = refl

-- endings -d d --expect boot
endings_expect : IsRefused (codes "endings" ∷ codes "-d" ∷ codes "d" ∷ codes "--expect" ∷ codes "boot" ∷ [])
unfolding clap_on_literals ubtool
endings_expect = refl
