mod GivenUp
