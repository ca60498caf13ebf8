-- What crates above cite: joined words by calculation, the letters of the frame, and that the calls keep units and lengths.
pub use Rattle.lie_letters.proofs.SpelledLemmas.{letter_of, word_of, IsWordOver-spelled, JoinedSpelled-refl, JoinedSpelled-trans, JoinedSpelled-flip, JoinedSpelled-append, JoinedSpelled-over, IsWordOverField-from_frame}
pub use Rattle.lie_letters.proofs.GroupSpelledLemmas.{JoinedInGroup-refl, JoinedInGroup-trans, JoinedInGroup-flip, JoinedInGroup-append, JoinedInGroup-over, JoinedInGroup-plain}
pub use Rattle.lie_letters.proofs.Products.{joined_to_letter, torus_letters_decide}
pub use Rattle.lie_letters.proofs.ReversedLemmas.{word_cancels}
pub use Rattle.lie_letters.proofs.TorusLemmas.{ones_joined, product_joined, inverse_joined, AreUnits-ones, AreUnits-times_each, AreUnits-inverses, length-times_each}
pub use Rattle.lie_letters.proofs.CharacterLemmas.{IsUnit-character, AreUnits-powers, length-cocharacter}
pub use Rattle.lie_letters.proofs.ReflectionLemmas.{vector_simple, covector_simple, length-simple_coroot, AreUnits-cocharacter}
pub use Rattle.lie_letters.proofs.RootLetterLemmas.{zero_joined, sum_joined, negative_joined, passing_joined}
pub use Rattle.lie_letters.proofs.BridgeLemmas.{IsWordOver-append, IsWordOver-ring, commutator_joined, joined_over_ring}
pub use Rattle.lie_letters.proofs.TableChoice.{joined_elsewhere}
